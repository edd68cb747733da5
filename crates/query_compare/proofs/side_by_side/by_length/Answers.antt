use borrow.Author.Tests.{lt-ltb, le-ltb}
use Rattle.query_compare.specs.OrderAnswers.{by_lengths}
use Rattle.query_compare.proofs.side_by_side.by_length.Goals as goal

pub returns-then-n-m : goal.returns-then-n-m
unfolding by_lengths
returns-then-n-m c = rw (lt-ltb _ _ c.if-n-m.true)

pub returns-then-m-n : goal.returns-then-m-n
unfolding by_lengths
returns-then-m-n c = rw (le-ltb _ _ c.if-n-m.false, lt-ltb _ _ c.if-m-n.true)

pub returns : goal.returns
unfolding by_lengths
returns c = rw (le-ltb _ _ c.if-n-m.false, le-ltb _ _ c.if-m-n.false)
