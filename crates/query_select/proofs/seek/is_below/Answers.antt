use native.Mathlib.Omega.{arith}
use borrow.Author.Tests.{lt-ltb, le-ltb}
use Rattle.query_select.proofs.seek.is_below.Goals as goal

pub returns-then-before-j : goal.returns-then-before-j
returns-then-before-j c = (rw (lt-ltb _ _ c.if-before-j.true), omega arith)

pub returns : goal.returns
returns c = (rw (le-ltb _ _ c.if-before-j.false), omega arith)
