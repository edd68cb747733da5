use borrow.Author.Tests.{le-ltb, lt-ltb}
use Rattle.walk_short.proofs.gather.splits.Goals as goal

pub returns-then-b-place : goal.returns-then-b-place
returns-then-b-place c = rw (le-ltb _ _ c.if-b-place.true)

pub returns : goal.returns
returns c = rw (lt-ltb _ _ c.if-b-place.false)
