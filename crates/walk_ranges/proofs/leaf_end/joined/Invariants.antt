use Prim.Native.Nat.{◌+◌, ◌-◌, ◌*◌, ◌≤◌}
use mathlib.Core.Path.{◌≡◌}
use Rattle.format.specs.Layout as at
use Rattle.walk_ranges.specs.LeafEnds.{Joined}
use Rattle.walk_ranges.proofs.leaf_end.joined.Given as goal

abbrev pub invariant-loop-next : goal.invariant-loop-next
invariant-loop-next l = record {
  whole : l.n + l.end.place.0 ≡ (l.next - l.end.block.0) * (at.settings l.t).leaf;
  near : l.n ≤ l.most + (at.settings l.t).leaf;
  joined : Joined l.t l.end l.n;
}
