use mathlib.Core.Path.{ap}
use Prim.Native.Nat.{ℕ}
use borrow.Author.Rules.{rules}
use lib.Dec.{ltb}
use Rattle.cases_script.specs.NameLine.{gives_bytes}
use Rattle.cases_script.proofs.name_line.gives_bytes.Goals as goal

pub input_number-requires : goal.input_number-requires
unfolding gives_bytes
input_number-requires c = search rules

pub returns : goal.returns
unfolding gives_bytes
returns c = ap (λ (k : ℕ). ltb k 4) c.input_number.ensures.value
