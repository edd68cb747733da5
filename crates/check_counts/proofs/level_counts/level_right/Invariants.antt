use Prim.Native.Nat.{ℕ, ◌<◌}
use mathlib.Core.Bool.{true}
use mathlib.Core.Path.{◌≡◌}
use Rattle.check_counts.specs.PrefixTargets.{byte_local}
use Rattle.check_counts.proofs.level_counts.level_right.Given as goal

abbrev pub invariant-loop-c : goal.invariant-loop-c
invariant-loop-c l = (x : ℕ) → x < l.c → byte_local l.t l.level x ≡ true
