use Rattle.refusals.specs.RefusalsLaws.{passed-on}
use Rattle.layout.specs.HeaderFields.{header-good}
use Rattle.query_compare.proofs.SideBySideLaws as laws
use Rattle.query_compare.proofs.compare_with.Goals as goal

pub by_places-requires : goal.by_places-requires
by_places-requires c = (
  c.requires,
  header-good _ _ c.read_header.ensures _ c.in_ok-g.was,
)

pub returns-in_err-g : goal.returns-in_err-g
returns-in_err-g c = rw (passed-on _ _ c.from_residual.ensures.1) (laws.second-unread _ _ _ _ c.in_err-g.was c.requires.passes c.read_header.ensures)
