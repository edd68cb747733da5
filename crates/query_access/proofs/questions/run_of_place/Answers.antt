use Rattle.query_access.proofs.ByteLaws.{byte_past}
use Rattle.query_access.proofs.LeafRunLaws.{run-or-broken}
use Rattle.query_access.proofs.questions.run_of_place.Goals as goal

pub returns-then-h-at : goal.returns-then-h-at
returns-then-h-at c = byte_past _ _ _ c.requires c.if-h-at.true

pub returns : goal.returns
returns c = rw c.ok_or.ensures.value (run-or-broken _ _ _ c.leaf_run.ensures)
