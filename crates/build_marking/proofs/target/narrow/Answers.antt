use native.Mathlib.Omega.{arith}
use Rattle.build_marking.proofs.TargetStep.{lower-half, upper-half, middle-in}
use Rattle.build_records.specs.State.{record_settings_of}
use Rattle.build_marking.proofs.target.narrow.Goals as goal

pub start-start-requires : goal.start-start-requires
start-start-requires c = let m = middle-in c.args.range.low.0 c.args.range.high.0 c.requires.low_bound in (
  c.requires.sorted.counted_few,
  c.requires.sorted.table_few,
  omega (arith, c.requires.sorted.count_few, m.1, c.requires.between.within),
  c.requires.sorted.leaf_few,
  c.requires.sorted.fits _ (omega (arith, m.1, c.requires.between.within)),
)

pub returns-then-place-start : goal.returns-then-place-start
returns-then-place-start c = let m = middle-in c.args.range.low.0 c.args.range.high.0 c.requires.low_bound in record {
  between_2 = lower-half c.args.out.now c.args.level.table c.args.level.count (record_settings_of c.args.level.settings c.args.counted.now)
      c.requires.sorted _ _ _ _ _ c.requires.between m.0 m.1 c.start-start.ensures c.if-place-start.true;
  low_bound_2 = omega (arith, m.0, m.1);
}

pub returns : goal.returns
returns c = let m = middle-in c.args.range.low.0 c.args.range.high.0 c.requires.low_bound in record {
  between_2 = upper-half c.args.out.now c.args.level.table c.args.level.count (record_settings_of c.args.level.settings c.args.counted.now)
      c.requires.sorted _ _ _ _ _ c.requires.between m.0 m.1 c.start-start.ensures c.if-place-start.false;
  low_bound_2 = omega (arith, m.0, m.1);
}
