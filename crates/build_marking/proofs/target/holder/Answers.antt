use Prim.Native.Nat.{◌-◌}
use native.Mathlib.Omega.{arith}
use Rattle.build_marking.proofs.TargetStep.{one_left}
use Rattle.build_records.specs.State.{record_settings_of}
use Rattle.build_marking.proofs.target.holder.Goals as goal

pub loop-range-init : goal.loop-range-init
loop-range-init c = c.requires.between

pub overflow_add-range : goal.overflow_add-range
overflow_add-range c = omega (arith, c.loop-range.invariant.some_left, c.loop-range.invariant.within, c.requires.sorted.count_few)

pub narrow-range-requires : goal.narrow-range-requires
narrow-range-requires c = record { sorted = c.requires.sorted; between = c.loop-range.invariant; low_bound = c.loop-range-test.true }

pub loop-range-smaller : goal.loop-range-smaller
loop-range-smaller c = c.narrow-range.ensures.low_bound_2

pub loop-range-preserved : goal.loop-range-preserved
loop-range-preserved c = c.narrow-range.ensures.between_2

pub returns : goal.returns
returns c = one_left c.args.out.now
    c.args.level.table c.args.level.count (record_settings_of c.args.level.settings c.args.counted.now) _ _ _ c.loop-range.invariant c.loop-range-test.false
