use Rattle.refusals.specs.RefusalsLaws.{passed-on}
use Rattle.query_access.proofs.ByteLaws.{run_none}
use Rattle.query_access.proofs.LeafRunLaws as laws
use Rattle.query_access.proofs.read_by_header.run_range_at.Goals as goal

pub returns-in_err-run : goal.returns-in_err-run
returns-in_err-run c = rw (passed-on _ _ c.from_residual.ensures.1) (run_none _ _ _ (laws.place-refused _ _ _ c.run_of_place.ensures _ c.in_err-run.was))

pub returns : goal.returns
returns c = laws.place-part _ _ _ c.run_of_place.ensures _ c.in_ok-run.was
