use native.Mathlib.Omega.{arith}
use Rattle.build_levels.proofs.LevelStepLaws as laws
use Rattle.build_records.proofs.StateLaws.{record-few}
use Rattle.theory_built.specs.BlockSizes.{bounds}
use Rattle.build_levels.proofs.level_step.finish.Goals as goal

pub put_pair-requires : goal.put_pair-requires
put_pair-requires c = laws.pair-asks _ _ _ _ _ c.requires.level_written

pub place-at-requires : goal.place-at-requires
place-at-requires c = let f = record-few _ _ _ c.requires.level_written.level_is in
    (f.counted_few, f.table_few, f.count_few, f.leaf_few)

pub overflow_cast-at : goal.overflow_cast-at
overflow_cast-at c = omega (
  arith,
  laws.table-small _ _ _ _ _ _ c.requires.level_written
      c.put_pair.ensures,
  c.place-at.ensures.0,
)

pub overflow_add-end : goal.overflow_add-end
overflow_add-end c = omega (arith, laws.end-small _ _ _ _ _ _ c.requires.level_written c.put_pair.ensures c.requires.number_value _ c.place-at.ensures.0)

pub overflow_cast-end : goal.overflow_cast-end
overflow_cast-end c = omega (arith, laws.end-small _ _ _ _ _ _ c.requires.level_written c.put_pair.ensures c.requires.number_value _ c.place-at.ensures.0)

pub shape_of-out-then-out-end : goal.shape_of-out-then-out-end
shape_of-out-then-out-end c = (laws.pair-only-tree _ _ _ _ _ _ c.requires.level_written c.put_pair.ensures).same_length

pub returns-then-out-end : goal.returns-then-out-end
returns-then-out-end c = record {
  writes_only_tree = laws.pair-only-tree _ _ _ _ _ _ c.requires.level_written c.put_pair.ensures;
  tree_complete = laws.not-fits
      _ _ _ _ _ _ c.requires.level_written c.put_pair.ensures c.requires.number_value _ c.place-at.ensures.0 c.if-out-end.true;
}

pub put_end-requires : goal.put_end-requires
put_end-requires c = (laws.room-two _ _ _ _ _ _ c.requires.level_written c.put_pair.ensures, (bounds _ _ c.requires.level_written.level_is.taken).levels_high)

pub put_leaves-requires : goal.put_leaves-requires
put_leaves-requires c = laws.leaf-bytes-first _ _ _ _ _ _ c.requires.level_written c.put_pair.ensures
    c.requires.number_value _ c.place-at.ensures.0 c.if-out-end.false _ c.put_end.ensures

pub shape_of-out : goal.shape_of-out
shape_of-out c = (laws.finish-only-tree _ _ _ _ _ _ c.requires.level_written c.put_pair.ensures
    c.requires.number_value _ c.place-at.ensures.0 c.if-out-end.false _ c.put_end.ensures
    _ c.put_leaves.ensures.writes_only_tree c.put_leaves.ensures.agrees_on).same_length

pub returns : goal.returns
returns c = record {
  writes_only_tree = laws.finish-only-tree _ _ _ _ _ _ c.requires.level_written c.put_pair.ensures c.requires.number_value _ c.place-at.ensures.0
      c.if-out-end.false _ c.put_end.ensures _ c.put_leaves.ensures.writes_only_tree
      c.put_leaves.ensures.agrees_on;
  tree_complete = laws.finished _ _ _ _ _ _ c.requires.level_written c.put_pair.ensures
      c.requires.number_value _ c.place-at.ensures.0 c.if-out-end.false _ c.put_end.ensures
      _ c.put_leaves.ensures.writes_only_tree c.put_leaves.ensures.agrees_on;
}
