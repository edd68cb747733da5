use Rattle.build_guide.proofs.GuideWrittenLaws as laws
use Rattle.layout.specs.HeaderFields.{header-good, header_refused}
use Rattle.build_guide.proofs.guide_checked.guide_right.Goals as goal

pub right_by-requires : goal.right_by-requires
right_by-requires c = (
  header-good _ _ c.read_header.ensures _ c.in-Ok.is,
  c.requires,
)

pub returns-in_default : goal.returns-in_default
returns-in_default c = let h = header_refused _ _ c.read_header.ensures _ c.in_default.is in
    absurd (laws.guide-not-refused _ _ c.requires h.1)
