use borrow.Author.Rules.{rules}
use Rattle.refusals.specs.RefusalsLaws.{passed-on}
use Rattle.layout.specs.HeaderFields.{header-good}
use Rattle.query_rows.specs.RowSpans.{settled_by}
use Rattle.query_rows.proofs.RowAnswerLaws as laws
use Rattle.query_rows.proofs.row.Goals as goal

pub read_header-requires : goal.read_header-requires
unfolding settled_by
read_header-requires c = search rules

pub row_at-requires : goal.row_at-requires
unfolding settled_by
row_at-requires c = header-good _ _ c.read_header.ensures _ c.in_ok-h.was

pub returns : goal.returns
unfolding settled_by
returns c = c.row_at.ensures

pub returns-in_err-h : goal.returns-in_err-h
unfolding settled_by
returns-in_err-h c = rw (passed-on _ _ c.from_residual.ensures.1) (laws.row-unread _ _ _ _ _ c.read_header.ensures _ c.in_err-h.was)
