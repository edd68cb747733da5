use Rattle.layout.specs.HeaderFields.{header-good}
use Rattle.list_lines.proofs.LineLaws as laws
use Rattle.list_lines.proofs.level_lines.Goals as goal

pub levels-requires : goal.levels-requires
levels-requires c = (header-good _ _ c.read_header.ensures _ c.in-Ok.is, c.requires.1)

pub returns-in-Ok : goal.returns-in-Ok
returns-in-Ok c = laws.print-lines _ c.requires.0 c.levels.ensures

pub returns-in-Err : goal.returns-in-Err
returns-in-Err c = absurd
    (laws.never-refused _ c.requires.0 _ c.read_header.ensures _ c.in-Err.is)
