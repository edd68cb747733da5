use Rattle.cases_tokens.proofs.PartsLaws.{found-some, found-none}
use Rattle.cases_tokens.proofs.parts.find.Goals as goal

pub returns-in-Some-clause-value : goal.returns-in-Some-clause-value
returns-in-Some-clause-value c = found-some c.args.s.now c.args.at c.args.stop _ _ c.first.ensures c.in-Some.is

pub returns-in-None-clause-value : goal.returns-in-None-clause-value
returns-in-None-clause-value c = found-none c.args.s.now c.args.at c.args.stop _ c.requires c.first.ensures c.in-None.is
