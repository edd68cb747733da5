use Rattle.query_rank.proofs.SumsLaws as laws
use Rattle.query_rank.proofs.sums.Sum.packed.Goals as goal

pub returns-then-self : goal.returns-then-self
returns-then-self c = laws.below_word _ c.if-self.true

pub returns : goal.returns
returns c = laws.rank-packed-word c.args.self c.requires.0 c.requires.1 c.if-self.false
