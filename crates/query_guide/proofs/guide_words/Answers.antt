use native.Mathlib.Omega.{arith}
use Rattle.refusals.specs.RefusalsLaws.{number-above, passed-on}
use Rattle.layout.specs.HeaderFields.{header-good, header_refused}
use Rattle.query_guide.proofs.GuideList as list
use Rattle.query_guide.proofs.guide_words.Goals as goal

pub entries_before-requires : goal.entries_before-requires
entries_before-requires c = let h = header-good _ _ c.read_header.ensures _ c.in_ok-h.was in (h, omega (arith, h.counted_is))

pub returns-in_err-h : goal.returns-in_err-h
returns-in_err-h c = let h = header_refused _ _ c.read_header.ensures _ c.in_err-h.was in
    rw (passed-on _ _ c.from_residual.ensures.1) (list.size-unread _ _ _ h.1 h.2, number-above _)

pub returns : goal.returns
returns c = let h = header-good _ _ c.read_header.ensures _ c.in_ok-h.was in
    (list.guide-size-is _ _ h.passes (list.all_words _ _ _ h.counted_is c.entries_before.ensures.0), tt)
