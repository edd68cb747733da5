use native.Mathlib.Omega.{arith}
use Rattle.columns.proofs.ColumnsWritten.{filled_more, filled-all, filled-by-none}
use Rattle.columns.proofs.transpose.Goals as goal

pub returns-then-rows-eq0 : goal.returns-then-rows-eq0
returns-then-rows-eq0 c = filled-by-none c.args.rows c.args.width c.args.text.now c.requires.0 c.args.out.now c.if-rows-eq0.true

pub loop-b-preserved : goal.loop-b-preserved
loop-b-preserved c = filled_more c.args.rows c.args.width c.args.text.now c.requires.0 c.args.out.now c.loop-b.out _ c.loop-b.b
    c.requires.1 (omega arith) c.loop-b.invariant c.put_column.ensures

pub returns : goal.returns
returns c = filled-all c.args.rows c.args.width c.args.text.now c.requires.0 c.args.out.now c.loop-b.out c.loop-b.b
    (omega arith) (omega arith) c.loop-b.invariant
