use Rattle.query_row_filter.proofs.RowsAfterLaws.{end-selected, end_none, end-some}
use Rattle.query_row_filter.proofs.rows_after.end_of_text.Goals as goal

pub returns-then-selected : goal.returns-then-selected
returns-then-selected c = end-selected _ c.args.empty _ c.if-selected.true

pub returns-then-empty : goal.returns-then-empty
returns-then-empty c = end_none _ _ _ c.if-selected.false c.if-empty.true

pub returns : goal.returns
returns c = end-some _ _ _ c.if-selected.false c.if-empty.false
