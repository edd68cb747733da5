use Rattle.refusals.specs.RefusalsLaws.{passed-on}
use Rattle.query_rows.proofs.RowLengthsLaws as laws
use Rattle.query_rows.proofs.row_lengths.length_at.Goals as goal

pub returns : goal.returns
returns c = laws.length-answered _ _ _ _ c.row_bounds.ensures _ _ _ c.in_ok-len.was

pub returns-in_err-len : goal.returns-in_err-len
returns-in_err-len c = rw (passed-on _ _ c.from_residual.ensures.1) (laws.length-refused _ _ _ _ c.row_bounds.ensures _ c.in_err-len.was)
