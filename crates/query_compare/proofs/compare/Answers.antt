use Rattle.refusals.specs.RefusalsLaws.{passed-on}
use Rattle.layout.specs.HeaderFields.{header-good}
use Rattle.query_compare.proofs.SideBySideLaws as laws
use Rattle.query_compare.proofs.compare.Goals as goal

pub compare_with-requires : goal.compare_with-requires
compare_with-requires c = header-good _ _ c.read_header.ensures _ c.in_ok-h.was

pub returns-in_err-h : goal.returns-in_err-h
returns-in_err-h c = rw (passed-on _ _ c.from_residual.ensures.1) (laws.first-unread _ _ _ _ c.in_err-h.was c.read_header.ensures)
