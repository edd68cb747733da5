use native.Mathlib.Omega.{arith}
use Rattle.build_records.proofs.EdgeBytes as laws
use Rattle.build_records.proofs.RecordCounts.{inside-text}
use Rattle.build_records.proofs.StateLaws.{record-few}
use Rattle.build_records.specs.State.{record_settings_of}
use Rattle.build_records.proofs.record_written.put_edges.Goals as goal

pub place-requires : goal.place-requires
place-requires c = let f = record-few (record_settings_of c.args.level.settings c.args.counted.now) c.args.text.now c.args.level c.requires.level_is in
    (f.counted_few, f.table_few, omega (arith, c.requires.block_in, f.count_few), f.leaf_few)

pub overflow_mul-at : goal.overflow_mul-at
overflow_mul-at c = let f = record-few (record_settings_of c.args.level.settings c.args.counted.now) c.args.text.now c.args.level c.requires.level_is in omega (arith, f.counted_few)

pub overflow_add-at-2 : goal.overflow_add-at-2
overflow_add-at-2 c = let f = record-few (record_settings_of c.args.level.settings
    c.args.counted.now) c.args.text.now c.args.level c.requires.level_is in omega (arith, f.counted_few, c.place.ensures.1)

pub overflow_add-last : goal.overflow_add-last
overflow_add-last c = omega (
  arith,
  inside-text
      _ _ _ _ _ _ c.requires,
  (record-few (record_settings_of c.args.level.settings c.args.counted.now) c.args.text.now c.args.level c.requires.level_is).text_few,
)

pub put_edge-requires : goal.put_edge-requires
put_edge-requires c = let S = record_settings_of c.args.level.settings c.args.counted.now in laws.first-asks
    S c.args.text.now c.args.out.now c.args.level c.args.i.0 c.args.block c.requires _ c.place.ensures.0 _ c.min-short.ensures

pub overflow_add-at-3 : goal.overflow_add-at-3
overflow_add-at-3 c = let f = record-few (record_settings_of c.args.level.settings c.args.counted.now) c.args.text.now c.args.level c.requires.level_is in
    omega (arith, f.counted_few, f.leaf_few, c.place.ensures.1)

pub put_edge-requires-2 : goal.put_edge-requires-2
put_edge-requires-2 c = let S = record_settings_of c.args.level.settings c.args.counted.now in laws.last-asks S c.args.text.now c.args.out.now c.args.level
    c.args.i.0 c.args.block c.requires _ c.place.ensures.0 _ c.min-short.ensures _ c.put_edge.ensures

pub returns : goal.returns
returns c = let S = record_settings_of c.args.level.settings c.args.counted.now in record {
  writes_only_tree = laws.edges-only-tree S c.args.text.now c.args.out.now c.args.level
      c.args.i.0 c.args.block c.requires _ c.place.ensures.0
      _ c.min-short.ensures
      _ c.put_edge.ensures _ c.put_edge-2.ensures;
  agrees_on = laws.edges-within S c.args.text.now c.args.out.now c.args.level
      c.args.i.0 c.args.block c.requires _ c.place.ensures.0
      _ c.min-short.ensures
      _ c.put_edge.ensures _ c.put_edge-2.ensures;
}
