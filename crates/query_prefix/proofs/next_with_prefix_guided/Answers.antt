use borrow.Author.Rules.{rules}
use Rattle.refusals.specs.RefusalsLaws.{passed-on}
use Rattle.layout.specs.HeaderFields.{header-good}
use Rattle.query_rows.specs.RowSpans.{settled_by}
use Rattle.query_prefix.proofs.PrefixSearchLaws.{prefix-unread}
use Rattle.query_prefix.proofs.next_with_prefix_guided.Goals as goal

pub read_header-requires : goal.read_header-requires
unfolding settled_by
read_header-requires c = search rules

pub next_at-requires : goal.next_at-requires
unfolding settled_by
next_at-requires c = header-good _ _ c.read_header.ensures _ c.in_ok-h.was

pub returns : goal.returns
unfolding settled_by
returns c = c.next_at.ensures

pub returns-in_err-h : goal.returns-in_err-h
unfolding settled_by
returns-in_err-h c = rw (passed-on _ _ c.from_residual.ensures.1) (prefix-unread _ _ _ _ _ c.read_header.ensures _ c.in_err-h.was)
