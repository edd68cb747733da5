use Rattle.build_levels.proofs.LevelZeroLaws as laws
use Rattle.build_records.proofs.WritesOnlyTreeLaws.{only-tree-refl}
use Rattle.theory_built.specs.BlockSizes.{bounds}
use Rattle.build_levels.proofs.level_step.begin.Goals as goal

pub first_level-first-requires : goal.first_level-first-requires
first_level-first-requires c = let l = bounds _ _ c.requires in (laws.first-sized _ _ _ c.requires, l.leaf_low, l.text_high)

pub place-requires : goal.place-requires
place-requires c = let f = laws.few-first _ _ _ c.requires _ c.first_level-first.ensures in
    (f.counted_few, f.table_few, f.count_few, f.leaf_few)

pub returns-then-out-place : goal.returns-then-out-place
returns-then-out-place c = record {
  writes_only_tree = only-tree-refl _ _;
  step_is = laws.no-first
      _ _ _ c.requires _ c.first_level-first.ensures c.args.out.now _ c.place.ensures.0 c.if-out-place.true;
}

pub put_head-requires : goal.put_head-requires
put_head-requires c = (
  c.requires,
  laws.long-first _ _ _ c.requires
      _ c.first_level-first.ensures c.args.out.now _ c.place.ensures.0 c.if-out-place.false,
)

pub record_size-requires : goal.record_size-requires
record_size-requires c = let l = bounds _ _ c.requires in
    (l.counted_high, l.leaf_high)

pub put_starts-requires : goal.put_starts-requires
put_starts-requires c = laws.starts_first _ _ _
    c.requires _ c.first_level-first.ensures c.args.out.now
    _ c.place.ensures.0 c.if-out-place.false _ c.put_head.ensures.writes_only_tree c.put_head.ensures.agrees_on _ c.record_size.ensures.0

pub shape_of-out : goal.shape_of-out
shape_of-out c = (laws.first-only-tree _ _ _ c.requires _ c.first_level-first.ensures
    c.args.out.now _ c.place.ensures.0 c.if-out-place.false _ c.put_head.ensures.writes_only_tree
    c.put_head.ensures.agrees_on _ c.record_size.ensures.0 _ c.put_starts.ensures).same_length

pub returns : goal.returns
returns c = record {
  writes_only_tree = laws.first-only-tree _ _ _
      c.requires _ c.first_level-first.ensures c.args.out.now _ c.place.ensures.0
      c.if-out-place.false _ c.put_head.ensures.writes_only_tree c.put_head.ensures.agrees_on _ c.record_size.ensures.0
      _ c.put_starts.ensures;
  step_is = laws.first_step _ _ _ c.requires _ c.first_level-first.ensures
      c.args.out.now _ c.place.ensures.0 c.if-out-place.false _ c.put_head.ensures.writes_only_tree
      c.put_head.ensures.agrees_on _ c.record_size.ensures.0 _ c.put_starts.ensures;
}
