use borrow.Author.Tests.{eq-eqb, ne_eqb}
use Rattle.layout.proofs.header.known.Goals as goal

pub returns-then-layout-eq-PLAIN : goal.returns-then-layout-eq-PLAIN
returns-then-layout-eq-PLAIN c = rw (eq-eqb _ 1 c.if-layout-eq-PLAIN.true)

pub returns : goal.returns
returns c = rw (ne_eqb _ 1 c.if-layout-eq-PLAIN.false)
