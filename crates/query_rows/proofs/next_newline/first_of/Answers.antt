use borrow.Author.Tests.{eq-eqb, ne_eqb}
use Rattle.query_rows.proofs.next_newline.first_of.Goals as goal

pub returns-then-first-ne0 : goal.returns-then-first-ne0
returns-then-first-ne0 c = rw (ne_eqb _ 0 c.if-first-ne0.true)

pub returns : goal.returns
returns c = rw (eq-eqb _ 0 c.if-first-ne0.false)
