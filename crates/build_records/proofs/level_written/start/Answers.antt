use Prim.Native.Nat.{ℕ}
use mathlib.Core.Path.{◌∙◌, ap}
use Rattle.format.specs.Layout.{word_at}
use Rattle.build_records.proofs.level_written.start.Goals as goal

pub returns : goal.returns
returns c = c.read.ensures ∙ ap (λ (k : ℕ). word_at c.args.out.now k) c.place.ensures.0
