use Rattle.refusals.specs.RefusalsLaws.{passed-on}
use Rattle.query_access.proofs.ByteLaws as laws
use Rattle.layout.specs.HeaderFields.{header-good}
use Rattle.query_access.proofs.byte.Goals as goal

pub byte_at-requires : goal.byte_at-requires
byte_at-requires c = header-good _ _ c.read_header.ensures _ c.in_ok-h.was

pub returns-in_err-h : goal.returns-in_err-h
returns-in_err-h c = rw (passed-on _ _ c.from_residual.ensures.1) (laws.byte-unread _ _ _ c.read_header.ensures _ c.in_err-h.was)
