use borrow.Author.Tests.{lt-ltb, le-ltb, le-leb, lt-leb}
use Rattle.licence.specs.TermSteps.{licence_between}
use Rattle.licence.proofs.in_term.Goals as goal

pub returns-then-last-first : goal.returns-then-last-first
unfolding licence_between
returns-then-last-first c = rw (lt-ltb _ _ c.if-last-first.true)

pub returns-then-first-day : goal.returns-then-first-day
unfolding licence_between
returns-then-first-day c = rw (le-ltb _ _ c.if-last-first.false, le-leb _ _ c.if-first-day.true)

pub returns-else-first-day : goal.returns-else-first-day
unfolding licence_between
returns-else-first-day c = rw (le-ltb _ _ c.if-last-first.false, lt-leb _ _ c.if-first-day.false)
