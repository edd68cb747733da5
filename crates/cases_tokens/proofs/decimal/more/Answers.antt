use borrow.Author.Tests.{lt-ltb, le-ltb}
use Rattle.cases_tokens.specs.Decimals.{more_of}
use Rattle.cases_tokens.proofs.decimal.more.Goals as goal

pub returns-then-digit-lt48 : goal.returns-then-digit-lt48
unfolding more_of
returns-then-digit-lt48 c = simp (lt-ltb _ 48 c.if-digit-lt48.true)

pub returns-then-digit-gt57 : goal.returns-then-digit-gt57
unfolding more_of
returns-then-digit-gt57 c = simp (le-ltb _ 48 c.if-digit-lt48.false, lt-ltb 57 _ c.if-digit-gt57.true)

pub returns-then-next-gt4294967295 : goal.returns-then-next-gt4294967295
unfolding more_of
returns-then-next-gt4294967295 c = simp (le-ltb _ 48 c.if-digit-lt48.false, le-ltb 57 _ c.if-digit-gt57.false, lt-ltb 4294967295 _ c.if-next-gt4294967295.true)

pub returns : goal.returns
unfolding more_of
returns c = simp (le-ltb _ 48 c.if-digit-lt48.false, le-ltb 57 _ c.if-digit-gt57.false, le-ltb 4294967295 _ c.if-next-gt4294967295.false)
