use Rattle.cases_tokens.proofs.PartsLaws.{ends_is}
use Rattle.cases_tokens.proofs.parts.ends.Goals as goal

pub returns : goal.returns
returns c = ends_is _ _ _ c.start.ensures
