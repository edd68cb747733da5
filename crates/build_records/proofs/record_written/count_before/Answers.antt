use Prim.Native.Nat.{◌-◌}
use borrow.Author.Tests.{eq-eqb, ne_eqb}
use native.Mathlib.Omega.{arith}
use Rattle.build_records.proofs.RecordWrittenLaws.{words-added}
use Rattle.build_records.proofs.record_written.count_before.Goals as goal

pub returns-then-block : goal.returns-then-block
returns-then-block c = rw (eq-eqb c.args.block.start.0 c.args.block.parent.0 c.if-block.true)

pub overflow_sub-left : goal.overflow_sub-left
overflow_sub-left c = omega (arith, (c.requires c.if-block.false).0)

pub read-requires : goal.read-requires
read-requires c = omega (arith, (c.requires c.if-block.false).1)

pub overflow_add-left : goal.overflow_add-left
overflow_add-left c = omega (arith, (c.requires c.if-block.false).1)

pub read-requires-2 : goal.read-requires-2
read-requires-2 c = omega (arith, (c.requires c.if-block.false).1)

pub overflow_add-result : goal.overflow_add-result
overflow_add-result c = omega (
  arith,
  (c.requires c.if-block.false).2,
  words-added c.args.out.now (c.args.at - c.args.size) _ _ c.read.ensures c.read-2.ensures,
)

pub returns : goal.returns
returns c = rw (ne_eqb c.args.block.start.0 c.args.block.parent.0 c.if-block.false)
    (words-added c.args.out.now (c.args.at - c.args.size) _ _ c.read.ensures c.read-2.ensures)
