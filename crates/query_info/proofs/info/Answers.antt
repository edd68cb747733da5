use Rattle.layout.specs.HeaderFields.{header-good}
use Rattle.query_info.proofs.InfoLaws as laws
use Rattle.query_info.proofs.info.Goals as goal

pub figures_of-requires : goal.figures_of-requires
figures_of-requires c = header-good _ _ c.read_header-read.ensures _ c.in-Ok.is

pub returns-in-Ok : goal.returns-in-Ok
returns-in-Ok c = let both = laws.figures-answered _ _ (header-good _ _ c.read_header-read.ensures _ c.in-Ok.is)
    _ c.figures_of.ensures in record { value = both.0; figures_after = both.1 }

pub returns-in-Err : goal.returns-in-Err
returns-in-Err c = let both = laws.info-unread _ _ c.read_header-read.ensures _ c.in-Err.is in record { value = both.0; figures_after = both.1 }
