use Prim.Native.Nat.{ℕ, ◌<◌}
use mathlib.Core.Bool.{true}
use mathlib.Core.Path.{◌≡◌}
use Rattle.theory_counts.specs.CountsLocal.{block_local}
use Rattle.check_counts.proofs.level_counts.byte_right.Given as goal

abbrev pub invariant-loop-i : goal.invariant-loop-i
invariant-loop-i l = (x : ℕ) → x < l.i → block_local l.t l.level x l.c ≡ true
