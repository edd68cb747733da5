use Rattle.build_guide.proofs.GuideWrittenLaws as laws
use Rattle.layout.specs.HeaderFields.{header-good, header_refused}
use Rattle.build_guide.proofs.guide_written.put_guide.Goals as goal

pub put_by-requires : goal.put_by-requires
put_by-requires c = (header-good _ _ c.read_header.ensures _ c.in_ok-h.was, c.requires)

pub returns-in_err-h : goal.returns-in_err-h
returns-in_err-h c = let h = header_refused _ _ c.read_header.ensures _ c.in_err-h.was in
    absurd (laws.guide-not-refused _ _ c.requires h.1)
