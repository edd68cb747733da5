use Prim.Native.Nat.{◌-◌}
use Rattle.build_marking.specs.TargetSearch.{Between}
use Rattle.build_records.specs.State.{record_settings_of}
use Rattle.build_marking.proofs.target.holder.Given as goal

abbrev pub invariant-loop-range : goal.invariant-loop-range
invariant-loop-range l =
    Between l.out l.level.table l.level.count (record_settings_of l.level.settings l.counted) l.place.0 l.range.low.0 l.range.high.0

abbrev pub decreases-loop-range : goal.decreases-loop-range
decreases-loop-range l = l.range.high.0 - l.range.low.0
