use native.Mathlib.Omega.{arith}
use Rattle.query_columns.proofs.ColumnRowLaws as laws
use Rattle.query_columns.proofs.copy.Goals as goal

pub loop-b-init : goal.loop-b-init
loop-b-init c = laws.read-start _ _ _ _

pub overflow_mul-b : goal.overflow_mul-b
overflow_mul-b c = omega (arith, laws.cell_below _ _ _ _ _ c.args.buffer.now c.requires c.loop-b.b (omega arith))

pub overflow_add-b : goal.overflow_add-b
overflow_add-b c = omega (arith, laws.cell_below _ _ _ _ _ c.args.buffer.now c.requires c.loop-b.b (omega arith))

pub returns-in_default : goal.returns-in_default
returns-in_default c = let both = laws.read-broken _ _ _ _ _ c.args.buffer.now
    c.requires _ _ c.loop-b.invariant (omega arith) _ c.byte_at-answer.ensures _ c.unwrap_err.ensures _ c.clear.ensures in record { row_by_columns_answer = both.0; buffer_after = both.1 }

pub loop-b-preserved : goal.loop-b-preserved
loop-b-preserved c = laws.read_more _ _ _ _ _ c.args.buffer.now c.requires _ _ c.loop-b.invariant (omega arith) _ c.byte_at-answer.ensures _ _ c.in-Ok.is

pub returns : goal.returns
returns c = let both = laws.read_all _ _ _ _ _ c.args.buffer.now c.requires _ _ c.loop-b.invariant (omega arith) in record { row_by_columns_answer = both.0; buffer_after = both.1 }
