use Rattle.refusals.specs.RefusalsLaws.{passed-on}
use Rattle.layout.specs.HeaderFields.{header-good}
use Rattle.query_key_match.proofs.MatchAnswerLaws.{match-unread}
use Rattle.query_key_match.proofs.next_match.Goals as goal

pub match_at-requires : goal.match_at-requires
match_at-requires c = header-good _ _ c.read_header.ensures _ c.in_ok-h.was

pub returns-in_err-h : goal.returns-in_err-h
returns-in_err-h c = rw (passed-on _ _ c.from_residual.ensures.1) (match-unread _ _ _ _ c.read_header.ensures _ c.in_err-h.was)
