use mathlib.Core.Path.{◌≡◌}
use Prim.Native.Nat.{◌+◌, ◌-◌, ◌*◌, ◌≤◌}
use lib.ListN.{length}
use Rattle.format.specs.Layout as at
use Rattle.query_access.proofs.SegmentLaws as segments
use Rattle.query_access.proofs.descent.+copy_segment.Given as goal

abbrev pub decreases-copy_segment : goal.decreases-copy_segment
decreases-copy_segment l = 2 * ((at.settings l.t.now.now).levels - l.on.level) + l.rules.pointers

abbrev pub invariant-loop-done : goal.invariant-loop-done
invariant-loop-done l =
    (l.done ≤ l.part.size) × (length l.buffer ≡ length l.initial.buffer)
    × segments.SegmentUpTo l.tree l.rules.pointers l.on.level l.block.0 l.from.place.0 l.part.to l.initial.buffer l.buffer l.done

abbrev pub decreases-loop-done : goal.decreases-loop-done
decreases-loop-done l = l.part.size - l.done
