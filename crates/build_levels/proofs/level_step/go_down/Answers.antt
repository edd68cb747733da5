use native.Mathlib.Omega.{arith}
use Rattle.build_levels.proofs.LevelStepLaws as laws
use Rattle.build_records.proofs.WritesOnlyTreeLaws.{only-tree-trans}
use Rattle.build_records.proofs.StateLaws.{record-few}
use Rattle.theory_built.specs.BlockSizes.{bounds}
use Rattle.build_levels.proofs.level_step.go_down.Goals as goal

pub put_pair-requires : goal.put_pair-requires
put_pair-requires c = laws.pair-asks _ _ _ _ _ c.requires.level_written

pub next_level-next-requires : goal.next_level-next-requires
next_level-next-requires c = let f = record-few _ _ _ c.requires.level_written.level_is in let b = bounds
    _ _ c.requires.level_written.level_is.taken in record {
      counted_len_bound = (
        f.counted_few,
        f.table_few,
        f.count_few,
        f.leaf_few,
        omega (
          arith,
          c.requires.level_written.level_is.number_in,
          b.levels_high,
        ),
        omega (arith, b.arity_low),
      );
      counted_bound = laws.table-small _ _ _ _ _ _ c.requires.level_written c.put_pair.ensures;
    }

pub place-requires : goal.place-requires
place-requires c = let f = laws.next-few _ _ _ _ _ _ c.requires.level_written c.put_pair.ensures c.requires.number_bound _ c.next_level-next.ensures in
    (f.counted_few, f.table_few, f.count_few, f.leaf_few)

pub shape_of-out-then-out-place : goal.shape_of-out-then-out-place
shape_of-out-then-out-place c = (laws.pair-only-tree _ _ _ _ _ _ c.requires.level_written c.put_pair.ensures).same_length

pub returns-then-out-place : goal.returns-then-out-place
returns-then-out-place c = record {
  writes_only_tree = laws.pair-only-tree _ _ _ _ _ _ c.requires.level_written c.put_pair.ensures;
  step_is = laws.step-full _ _ _ _ _ _
      c.requires.level_written c.put_pair.ensures c.requires.number_bound _ c.next_level-next.ensures _ c.place.ensures.0 c.if-out-place.true;
}

pub put_children-requires : goal.put_children-requires
put_children-requires c = laws.step-below _ _ _ _ _ _ c.requires.level_written c.put_pair.ensures
    c.requires.number_bound _ c.next_level-next.ensures _ c.place.ensures.0 c.if-out-place.false

pub shape_of-out : goal.shape_of-out
shape_of-out c = (only-tree-trans _ _ _ _ (laws.pair-only-tree _ _ _ _ _ _
    c.requires.level_written c.put_pair.ensures) c.put_children.ensures.writes_only_tree).same_length

pub returns : goal.returns
returns c = record {
  writes_only_tree = only-tree-trans _ _ _ _ (laws.pair-only-tree _ _ _ _ _ _ c.requires.level_written c.put_pair.ensures) c.put_children.ensures.writes_only_tree;
  step_is = laws.step-to
      _ _ _ _ _ _ c.requires.level_written c.put_pair.ensures c.requires.number_bound _ c.next_level-next.ensures
      _ c.put_children.ensures.writes_only_tree c.put_children.ensures.records_up_to;
}
