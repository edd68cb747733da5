use Rattle.refusals.specs.RefusalsLaws.{passed-on}
use Rattle.layout.specs.HeaderFields.{header-good}
use Rattle.query_rows.proofs.RowLengthsLaws as laws
use Rattle.query_rows.proofs.row_length.Goals as goal

pub length_at-requires : goal.length_at-requires
length_at-requires c = header-good _ _ c.read_header.ensures _ c.in_ok-h.was

pub returns-in_err-h : goal.returns-in_err-h
returns-in_err-h c = rw (passed-on _ _ c.from_residual.ensures.1) (laws.length-unread _ _ _ c.read_header.ensures _ c.in_err-h.was)
