use Rattle.build_records.specs.WritesOnlyTree.{WritesOnlyTree}
use Rattle.build_records.specs.State.{record_settings_of, Below}
use Rattle.format.specs.Blocks.{tree_of}
use Rattle.build_records.proofs.below.put_children.Given as goal

abbrev pub invariant-loop-i : goal.invariant-loop-i
invariant-loop-i l = record {
  writes_only_tree : WritesOnlyTree (tree_of (record_settings_of l.level.settings l.counted) l.text) l.initial.out l.out;
  below : Below (record_settings_of l.level.settings l.counted) l.text l.out l.level l.next l.i;
}
