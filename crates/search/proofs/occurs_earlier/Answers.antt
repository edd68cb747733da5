use Rattle.std.proofs.Common.{rules}
use Rattle.search.proofs.AnswerCases.{earlier_by}
use Rattle.search.proofs.occurs_earlier.Goals as goal

pub returns : goal.returns
returns c = earlier_by _ _ _ _ _ c.leftmost.ensures (λ e. search rules) (λ p e. search rules)
