use native.Mathlib.Omega.{arith}
use borrow.Author.Tests.{lt-ltb, le-ltb}
use Rattle.walk_steps.proofs.past.Goals as goal

pub returns-then-place-b : goal.returns-then-place-b
returns-then-place-b c = (simp (lt-ltb _ _ c.if-place-b.true), omega arith, omega arith)

pub returns : goal.returns
returns c = (simp (le-ltb _ _ c.if-place-b.false), omega arith, omega (arith, c.if-place-b.false))
