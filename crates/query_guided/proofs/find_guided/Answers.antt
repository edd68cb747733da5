use mathlib.Core.Path.{◌∙◌, sym}
use Rattle.refusals.specs.RefusalsLaws.{passed-on}
use Rattle.layout.specs.HeaderFields.{header-good, header_refused}
use Rattle.query_select.proofs.FindByHeaderLaws as first
use Rattle.query_guided.proofs.GuidedFindLaws as laws
use Rattle.query_guided.proofs.find_guided.Goals as goal

pub find_guided_at-requires : goal.find_guided_at-requires
find_guided_at-requires c = header-good _ _ c.read_header.ensures _ c.in_ok-h.was

pub returns-in_err-h : goal.returns-in_err-h
returns-in_err-h c = let h = header_refused _ _ c.read_header.ensures _ c.in_err-h.was in
    rw (passed-on _ _ c.from_residual.ensures.1) (laws.guided-refused _ _ _ _ _ (first.number-unread _ _ _ _ h.1 ∙ sym h.2))
