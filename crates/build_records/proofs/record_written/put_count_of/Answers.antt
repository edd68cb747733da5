use native.Mathlib.Omega.{arith}
use Rattle.build_records.proofs.RecordCounts as laws
use Rattle.build_records.proofs.StateLaws.{record-few}
use Rattle.build_records.specs.State.{record_settings_of}
use Rattle.build_records.proofs.record_written.put_count_of.Goals as goal

pub place-requires : goal.place-requires
place-requires c = let f = record-few (record_settings_of c.args.level.settings c.args.counted.now) c.args.text.now c.args.level c.requires.0.level_is in
    (f.counted_few, f.table_few, omega (arith, c.requires.0.block_in, f.count_few), f.leaf_few)

pub overflow_mul-at : goal.overflow_mul-at
overflow_mul-at c = let f = record-few
    (record_settings_of c.args.level.settings c.args.counted.now) c.args.text.now c.args.level c.requires.0.level_is in omega (arith, f.counted_few, c.requires.1)

pub overflow_add-at-2 : goal.overflow_add-at-2
overflow_add-at-2 c = let f = record-few (record_settings_of c.args.level.settings c.args.counted.now)
    c.args.text.now c.args.level c.requires.0.level_is in omega (arith, f.counted_few, c.requires.1, c.place.ensures.1)

pub record_size-size-requires : goal.record_size-size-requires
record_size-size-requires c = let f =
    record-few (record_settings_of c.args.level.settings c.args.counted.now) c.args.text.now c.args.level c.requires.0.level_is in (f.counted_few, f.leaf_few)

pub count_before-b-requires : goal.count_before-b-requires
count_before-b-requires c = let S = record_settings_of c.args.level.settings c.args.counted.now in laws.left-needs S c.args.text.now c.args.out.now c.args.level c.args.of.block.0
    c.args.block c.requires.0 _ c.args.of.byte _ c.place.ensures.0 c.record_size-size.ensures.0 c.requires.1

pub put_count-requires : goal.put_count-requires
put_count-requires c = let S = record_settings_of c.args.level.settings c.args.counted.now in
    let f = record-few S c.args.text.now c.args.level c.requires.0.level_is in (
      omega (
        arith,
        laws.count_fits S c.args.text.now c.args.out.now c.args.level
            c.args.of.block.0 c.args.block c.requires.0 _ c.args.of.byte _ c.place.ensures.0 c.record_size-size.ensures.0 c.requires.1,
        laws.here S c.args.text.now
            c.args.out.now c.args.level c.args.of.block.0 c.args.block c.requires.0 _ c.args.of.byte _ c.place.ensures.0 c.record_size-size.ensures.0 c.requires.1,
      ),
      f.text_few,
      laws.inside-text S c.args.text.now c.args.out.now c.args.level c.args.of.block.0 c.args.block c.requires.0,
      c.requires.0.block_is.skip_in,
    )

pub returns : goal.returns
returns c = let S = record_settings_of c.args.level.settings c.args.counted.now in record {
  writes_only_tree = laws.counted-only-tree S c.args.text.now
      c.args.out.now c.args.level c.args.of.block.0 c.args.block c.requires.0 _ c.args.of.byte _ c.place.ensures.0 c.record_size-size.ensures.0
      c.requires.1 _ _ c.count_before-b.ensures c.put_count.ensures;
  agrees_on = laws.counted-within S c.args.text.now
      c.args.out.now c.args.level c.args.of.block.0 c.args.block c.requires.0 _ c.args.of.byte _ c.place.ensures.0 c.record_size-size.ensures.0
      c.requires.1 _ _ c.count_before-b.ensures c.put_count.ensures;
}
