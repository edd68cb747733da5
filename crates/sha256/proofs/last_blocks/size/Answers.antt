use borrow.Author.Tests.{lt-ltb, le-ltb}
use Rattle.sha256.proofs.last_blocks.size.Goals as goal

pub returns-then-rest-lt56 : goal.returns-then-rest-lt56
returns-then-rest-lt56 c = simp (lt-ltb c.args.rest 56 c.if-rest-lt56.true)

pub returns : goal.returns
returns c = simp (le-ltb _ 56 c.if-rest-lt56.false)
