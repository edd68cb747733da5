use Rattle.cases_tokens.proofs.PartsLaws.{until-is}
use Rattle.cases_tokens.proofs.parts.until.Goals as goal

pub returns : goal.returns
returns c = until-is c.args.s.now c.args.at _ _ c.find-end.ensures.value
