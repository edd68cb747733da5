use Rattle.cases_tokens.proofs.PartsLaws.{token-is}
use Rattle.cases_tokens.proofs.parts.token.Goals as goal

pub returns : goal.returns
returns c = token-is _ _ _ _ c.start-at.ensures c.until.ensures
