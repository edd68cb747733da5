use Rattle.cases_tokens.proofs.PartsLaws.{start_none, start-next}
use Rattle.cases_tokens.proofs.parts.start.Goals as goal

pub loop-init : goal.loop-init
loop-init c = start_none _

pub loop-preserved : goal.loop-preserved
loop-preserved c = start-next _ _ _ _ c.loop.invariant c.past-at.ensures
