use borrow.Author.Tests.{lt-ltb, le-ltb}
use Rattle.search_kmp.proofs.fits.Goals as goal

pub returns-then-k-pattern : goal.returns-then-k-pattern
returns-then-k-pattern c = rw (lt-ltb _ _ c.if-k-pattern.true)

pub returns : goal.returns
returns c = rw (le-ltb _ _ c.if-k-pattern.false)
