use mathlib.Core.Path.{◌≡◌}
use Prim.Native.Nat.{ℕ, ◌-◌, ◌≤◌, ◌<◌}
use Rattle.format.specs.Layout as at
use Rattle.theory_counts.specs.LevelTrue.{Level}
use Rattle.check_counts.proofs.counts_right.Given as goal

abbrev pub invariant-loop-level : goal.invariant-loop-level
invariant-loop-level l = record {
  length_is : 0 < l.level → l.b ≡ at.full_length l.t (l.level - 1);
  checked : (m : ℕ) → l.level ≤ m → m < (at.settings l.t).levels → Level l.t m;
}
