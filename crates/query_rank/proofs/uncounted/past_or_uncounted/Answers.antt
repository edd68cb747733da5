use borrow.Author.Tests.{lt-leb, le-leb}
use Rattle.query_rank.proofs.uncounted.past_or_uncounted.Goals as goal

pub returns-then-n-i : goal.returns-then-n-i
returns-then-n-i c = simp (lt-leb _ _ c.if-n-i.true)

pub returns : goal.returns
returns c = simp (le-leb _ _ c.if-n-i.false)
