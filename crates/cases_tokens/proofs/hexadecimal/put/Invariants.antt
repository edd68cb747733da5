use mathlib.Core.Path.{◌≡◌}
use Prim.Native.Nat.{ℕ, ◌<◌}
use lib.ListN.{get_or}
use Rattle.cases_tokens.specs.Hexadecimals.{hex_bytes}
use Rattle.cases_tokens.proofs.hexadecimal.put.Given as goal

abbrev pub invariant-loop-i : goal.invariant-loop-i
invariant-loop-i l = (k : ℕ) → k < l.i → get_or l.b-items k 0 ≡ get_or (hex_bytes l.word) k 0
