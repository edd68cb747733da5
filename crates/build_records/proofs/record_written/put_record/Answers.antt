use native.Mathlib.Omega.{arith}
use Rattle.build_records.proofs.WritesOnlyTreeLaws.{only-tree-trans}
use Rattle.build_records.proofs.RecordCounts as laws
use Rattle.build_records.proofs.StateLaws.{record-few, writing-only-tree, record-size}
use Rattle.build_records.specs.State.{record_settings_of}
use Rattle.format.specs.Blocks.{tree_of}
use Rattle.build_records.proofs.record_written.put_record.Goals as goal

pub place-at-requires : goal.place-at-requires
place-at-requires c = let f = record-few (record_settings_of c.args.level.settings c.args.counted.now) c.args.text.now c.args.level c.requires.level_is in
    (f.counted_few, f.table_few, omega (arith, c.requires.block_in, f.count_few), f.leaf_few)

pub put_three-requires : goal.put_three-requires
put_three-requires c = let S = record_settings_of c.args.level.settings
    c.args.counted.now in omega (
      arith,
      c.place-at.ensures.0,
      laws.here-is S c.args.text.now c.args.out.now c.args.level c.args.i.0 c.args.block c.requires,
      laws.record-fits S c.args.text.now c.args.out.now c.args.level c.args.i.0 c.args.block c.requires,
      record-size S c.args.text.now,
    )

pub put_counts-requires : goal.put_counts-requires
put_counts-requires c = let S = record_settings_of c.args.level.settings c.args.counted.now in
    writing-only-tree S c.args.text.now c.args.out.now _ c.args.level c.args.i.0 c.args.block c.requires (laws.fields-only-tree S
    c.args.text.now c.args.out.now c.args.level c.args.i.0 c.args.block c.requires _ _ c.place-at.ensures.0 c.put_three.ensures)

pub put_edges-requires : goal.put_edges-requires
put_edges-requires c = let S = record_settings_of c.args.level.settings c.args.counted.now in writing-only-tree S c.args.text.now c.args.out.now _ c.args.level
    c.args.i.0 c.args.block c.requires (only-tree-trans (tree_of S c.args.text.now) _ _ _ (laws.fields-only-tree S c.args.text.now c.args.out.now c.args.level c.args.i.0
    c.args.block c.requires _ _ c.place-at.ensures.0 c.put_three.ensures) c.put_counts.ensures.writes_only_tree)

pub returns : goal.returns
returns c = let S = record_settings_of c.args.level.settings c.args.counted.now in let f = laws.fields-only-tree
    S c.args.text.now c.args.out.now c.args.level c.args.i.0 c.args.block c.requires _ _ c.place-at.ensures.0 c.put_three.ensures in record {
      writes_only_tree = only-tree-trans (tree_of S c.args.text.now) _ _ _ f (only-tree-trans (tree_of S c.args.text.now)
          _ _ _ c.put_counts.ensures.writes_only_tree c.put_edges.ensures.writes_only_tree);
      agrees_on = laws.record-done S c.args.text.now c.args.out.now c.args.level c.args.i.0
          c.args.block c.requires _ _ c.place-at.ensures.0
          c.put_three.ensures
          _ _ c.put_counts.ensures.writes_only_tree
          c.put_counts.ensures.agrees_on
          c.put_edges.ensures.writes_only_tree c.put_edges.ensures.agrees_on;
    }
