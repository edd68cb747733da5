use Rattle.refusals.specs.RefusalsLaws.{number-above, passed-on}
use Rattle.layout.specs.HeaderFields.{header-good}
use Rattle.query_select.proofs.FindByHeaderLaws as laws
use Rattle.query_select.proofs.find.Goals as goal

pub find_at-requires : goal.find_at-requires
find_at-requires c = header-good _ _ c.read_header.ensures _ c.in_ok-h.was

pub returns-in_err-h : goal.returns-in_err-h
returns-in_err-h c = rw (passed-on _ _ c.from_residual.ensures.1) (record {
  answers = laws.find-unread _ _ _ _ c.read_header.ensures _ c.in_err-h.was;
  numbered = number-above _;
})
