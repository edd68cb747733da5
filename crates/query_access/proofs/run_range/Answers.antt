use Rattle.refusals.specs.RefusalsLaws.{passed-on}
use Rattle.query_access.proofs.ByteLaws as laws
use Rattle.layout.specs.HeaderFields.{header-good}
use Rattle.query_access.proofs.run_range.Goals as goal

pub run_range_at-requires : goal.run_range_at-requires
run_range_at-requires c = header-good _ _ c.read_header.ensures _ c.in_ok-h.was

pub returns-in_err-h : goal.returns-in_err-h
returns-in_err-h c = rw (passed-on _ _ c.from_residual.ensures.1) (laws.run-unread _ _ _ c.read_header.ensures _ c.in_err-h.was)
