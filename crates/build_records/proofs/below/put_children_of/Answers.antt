use native.Mathlib.Omega.{arith}
use Rattle.build_records.proofs.BelowLaws as laws
use Rattle.build_records.proofs.WritesOnlyTreeLaws.{only-tree-refl}
use Rattle.build_records.proofs.StateLaws.{record-few}
use Rattle.build_records.proofs.below.put_children_of.Goals as goal

pub place-at-requires : goal.place-at-requires
place-at-requires c = let f = record-few _ _ _ c.requires.0.level_is in
    (f.counted_few, f.table_few, omega (arith, f.count_few, c.requires.1), f.leaf_few)

pub read-requires : goal.read-requires
read-requires c = omega (arith, laws.record-fits _ _ _ _ _ _ c.requires.0 c.requires.1 _ c.place-at.ensures.0)

pub returns-then-read-ne0 : goal.returns-then-read-ne0
returns-then-read-ne0 c = record {
  writes_only_tree = only-tree-refl _ _;
  started = laws.no-children
      _ _ _ _ _ _ c.requires.0 c.requires.1 _ c.place-at.ensures.0 _ c.read.ensures c.if-read-ne0.true;
}

pub overflow_add-at-2 : goal.overflow_add-at-2
overflow_add-at-2 c = omega (arith, c.place-at.ensures.1)

pub read-requires-2 : goal.read-requires-2
read-requires-2 c = omega (arith, laws.record-fits _ _ _ _ _ _ c.requires.0 c.requires.1 _ c.place-at.ensures.0)

pub substring_of-own-requires : goal.substring_of-own-requires
substring_of-own-requires c = laws.children-on _ _ _ _ _ _ c.requires.0 c.requires.1

pub pieces-children-requires : goal.pieces-children-requires
pieces-children-requires c = laws.pieces-asks _ _ _ _ _ _ c.requires.0 c.requires.1 _ c.place-at.ensures.0
    _ c.read.ensures c.if-read-ne0.false _ c.read-2.ensures _ c.substring_of-own.ensures

pub place-requires : goal.place-requires
place-requires c = let f = record-few _ _ _ c.requires.0.next_is in (
  f.counted_few,
  f.table_few,
  laws.link-few _ _ _ _ _ _ c.requires.0 c.requires.1 _ c.place-at.ensures.0
      _ c.read.ensures c.if-read-ne0.false _ c.read-2.ensures,
  f.leaf_few,
)

pub record_size-requires : goal.record_size-requires
record_size-requires c = let f = record-few _ _ _ c.requires.0.level_is in (f.counted_few, f.leaf_few)

pub put_starts-requires : goal.put_starts-requires
put_starts-requires c = laws.starts-ask _ _ _ _ _ _ c.requires.0 c.requires.1 _ c.place-at.ensures.0 _ c.read.ensures
    c.if-read-ne0.false _ c.read-2.ensures _ c.substring_of-own.ensures
    _ c.pieces-children.ensures _ c.place.ensures.0 c.place.ensures.1 _ c.record_size.ensures.0

pub returns : goal.returns
returns c = let both = laws.children-written _ _ _ _ _ _
    c.requires.0 c.requires.1 _ c.place-at.ensures.0 _ c.read.ensures
    c.if-read-ne0.false _ c.read-2.ensures _ c.substring_of-own.ensures _ c.pieces-children.ensures
    _ c.place.ensures.0 c.place.ensures.1 _ c.record_size.ensures.0 _ c.put_starts.ensures in record { writes_only_tree = both.0; started = both.1 }
