use Rattle.cases_tokens.proofs.PartsLaws.{past-some, past-none}
use Rattle.cases_tokens.proofs.parts.past.Goals as goal

pub returns-then-end-s : goal.returns-then-end-s
returns-then-end-s c = past-some c.args.s.now _ _ _ c.find-end.ensures.value c.if-end-s.true

pub returns : goal.returns
returns c = past-none c.args.s.now _ _ _ c.find-end.ensures.value c.find-end.ensures.upper_bound c.if-end-s.false
