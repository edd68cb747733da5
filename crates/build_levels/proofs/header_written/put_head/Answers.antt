use native.Mathlib.Omega.{arith}
use Rattle.build_levels.proofs.HeaderWrittenLaws.{head-only-tree, head-within}
use Rattle.build_records.specs.State.{record_settings_of}
use Rattle.theory_built.specs.BlockSizes.{bounds}
use Rattle.build_levels.proofs.header_written.put_head.Goals as goal

pub overflow_cast-text : goal.overflow_cast-text
overflow_cast-text c = omega (arith, (bounds (record_settings_of c.args.s c.args.counted.now) c.args.text.now c.requires.0).text_high)

pub overflow_cast-counted : goal.overflow_cast-counted
overflow_cast-counted c = omega (arith, (bounds (record_settings_of c.args.s c.args.counted.now) c.args.text.now c.requires.0).counted_high)

pub put_counted-requires : goal.put_counted-requires
put_counted-requires c = (
  (bounds (record_settings_of c.args.s c.args.counted.now) c.args.text.now c.requires.0).counted_high,
  omega (
    arith,
    c.put_three.auto.t,
    c.put_three-2.auto.t,
    c.requires.1,
  ),
)

pub returns : goal.returns
returns c = let S = record_settings_of c.args.s c.args.counted.now in record {
  writes_only_tree = head-only-tree S c.args.text.now
      c.requires.0 c.args.out.now _ _ _ c.requires.1 c.put_three.ensures c.put_three-2.ensures
      c.put_counted.ensures;
  agrees_on = head-within S c.args.text.now c.requires.0 c.args.out.now _ _ _ c.requires.1
      c.put_three.ensures c.put_three-2.ensures c.put_counted.ensures;
}
