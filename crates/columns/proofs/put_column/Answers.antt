use native.Mathlib.Omega.{arith}
use Rattle.columns.proofs.ColumnsWritten.{cell-more}
use Rattle.columns.proofs.put_column.Goals as goal

pub loop-a-preserved : goal.loop-a-preserved
loop-a-preserved c = cell-more c.args.rows c.args.width c.args.text.now c.requires.0 c.args.out.now c.loop-a.out c.loop-a.a c.args.b
    c.requires.1 (omega arith) c.requires.2 c.loop-a.invariant
