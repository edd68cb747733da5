use Prim.Native.Nat.{◌≤◌}
use mathlib.Core.Path.{◌≡◌}
use Rattle.text.specs.Text.{substring, count_in}
use Rattle.check_counts.proofs.leaf_count.leaf_count.Given as goal

abbrev pub invariant-loop-x : goal.invariant-loop-x
invariant-loop-x l = (l.times ≡ count_in l.byte (substring l.t l.from l.x-index)) × (l.times ≤ l.x-index)
