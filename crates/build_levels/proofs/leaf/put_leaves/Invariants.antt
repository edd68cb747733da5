use Rattle.build_records.specs.WritesOnlyTree.{WritesOnlyTree}
use Rattle.build_levels.specs.LeafBytesWritten.{LeafBytesUpTo}
use Rattle.build_records.specs.State.{record_settings_of}
use Rattle.format.specs.Blocks.{tree_of}
use Rattle.build_levels.proofs.leaf.put_leaves.Given as goal

abbrev pub invariant-loop-i : goal.invariant-loop-i
invariant-loop-i l = record {
  writes_only_tree : WritesOnlyTree (tree_of (record_settings_of l.level.settings l.counted) l.text) l.initial.out l.out;
  up_to : LeafBytesUpTo (record_settings_of l.level.settings l.counted) l.text l.out l.level l.to l.i;
}
