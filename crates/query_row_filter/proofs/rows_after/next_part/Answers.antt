use Rattle.query_row_filter.proofs.RowsAfterLaws.{part-from}
use Rattle.query_row_filter.proofs.rows_after.next_part.Goals as goal

pub returns : goal.returns
returns c = part-from _ _ c.range_at.result _ c.requires.0 c.requires.1 1024 c.range_at.ensures
