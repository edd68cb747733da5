use native.Mathlib.Omega.{arith}
use Rattle.refusals.specs.RefusalsLaws.{passed-on}
use Rattle.query_access.proofs.LeafRunLaws as laws
use Rattle.query_access.proofs.read_by_header.byte_at.Goals as goal

pub returns-in_err-run : goal.returns-in_err-run
returns-in_err-run c = rw (passed-on _ _ c.from_residual.ensures.1) (laws.place-refused _ _ _ c.run_of_place.ensures _ c.in_err-run.was)

pub byte_on-requires : goal.byte_on-requires
byte_on-requires c = let r = laws.place-found _ _ _ c.run_of_place.ensures _ c.in_ok-run.was in
    omega (arith, r.some_byte, r.in_tree)

pub returns : goal.returns
returns c = laws.run-first-byte _ _ _ (laws.place-found _ _ _ c.run_of_place.ensures _ c.in_ok-run.was) _ c.byte_on.ensures
