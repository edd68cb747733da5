use Rattle.refusals.specs.RefusalsLaws.{passed-on}
use Rattle.layout.specs.HeaderFields.{header-good}
use Rattle.query_columns.proofs.ColumnRowLaws as laws
use Rattle.query_columns.proofs.row_by_columns.Goals as goal

pub row_at-requires : goal.row_at-requires
row_at-requires c = header-good _ _ c.read_header.ensures _ c.in_ok-h.was

pub returns-in_err-h : goal.returns-in_err-h
returns-in_err-h c = rw (passed-on _ _ c.from_residual.ensures.1)
    (let both = laws.read-unread _ _ _ _ _ c.read_header.ensures _ c.in_err-h.was in record { row_by_columns_answer = both.0; buffer_after = both.1 })
