use Rattle.build_records.proofs.Widths as laws
use native.Mathlib.Omega.{arith}
use Rattle.build_records.proofs.record_written.put_block.Goals as goal

pub returns-then-block-ne0 : goal.returns-then-block-ne0
returns-then-block-ne0 c = record { value = laws.none_below _ _ _ _ _ _ c.requires c.if-block-ne0.true; writes_only_tree = c.put_record.ensures.writes_only_tree; agrees_on = c.put_record.ensures.agrees_on }

pub overflow_add-level : goal.overflow_add-level
overflow_add-level c = omega (arith, laws.number-few _ _ _ _ _ _ c.requires)

pub returns-then-level : goal.returns-then-level
returns-then-level c = record { value = laws.leaves-below _ _ _ _ _ _ c.requires c.if-level.true; writes_only_tree = c.put_record.ensures.writes_only_tree; agrees_on = c.put_record.ensures.agrees_on }

pub pieces-requires : goal.pieces-requires
pieces-requires c = laws.pieces-ask _ _ _ _ _ _ c.requires c.if-level.false

pub returns : goal.returns
returns c = record {
  value = laws.children-below _ _ _ _ _ _
      c.requires c.if-level.false c.if-block-ne0.false _ c.pieces.ensures;
  writes_only_tree = c.put_record.ensures.writes_only_tree;
  agrees_on = c.put_record.ensures.agrees_on;
}
