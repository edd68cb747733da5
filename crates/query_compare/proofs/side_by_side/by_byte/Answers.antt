use borrow.Author.Tests.{lt-ltb, le-ltb}
use Rattle.query_compare.specs.Compared.{by_byte}
use Rattle.query_compare.proofs.side_by_side.by_byte.Goals as goal

pub returns-then-one-from : goal.returns-then-one-from
unfolding by_byte
returns-then-one-from c = rw (lt-ltb _ _ c.if-one-from.true)

pub returns : goal.returns
unfolding by_byte
returns c = rw (le-ltb _ _ c.if-one-from.false)
