use Prim.Native.Nat.{◌+◌, ◌*◌}
use Rattle.build_records.specs.WritesOnlyTree.{WritesOnlyTree, AgreesOn}
use Rattle.build_records.specs.State.{record_settings_of, place_at}
use Rattle.format.specs.Layout.{plain_bytes, counted_bytes}
use Rattle.format.specs.Blocks.{tree_of}
use Rattle.build_records.proofs.record_written.put_counts.Given as goal

abbrev pub invariant-loop-c : goal.invariant-loop-c
invariant-loop-c l = record {
  writes_only_tree : WritesOnlyTree (tree_of (record_settings_of l.level.settings l.counted) l.text) l.initial.out l.out;
  agrees_on : AgreesOn (tree_of (record_settings_of l.level.settings l.counted) l.text) l.out
      (place_at (record_settings_of l.level.settings l.counted) l.text l.level.number l.i.0 + plain_bytes)
      (place_at (record_settings_of l.level.settings l.counted) l.text l.level.number l.i.0 + plain_bytes + counted_bytes * l.c);
}
