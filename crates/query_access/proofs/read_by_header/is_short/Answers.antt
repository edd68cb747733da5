use borrow.Author.Tests.{eq-eqb, ne_eqb, le-leb, lt-leb}
use Rattle.query_access.proofs.read_by_header.is_short.Goals as goal

pub returns-then-h-ne-EDGED : goal.returns-then-h-ne-EDGED
returns-then-h-ne-EDGED c = rw (ne_eqb _ 2 c.if-h-ne-EDGED.true)

pub returns-then-len-lt1 : goal.returns-then-len-lt1
returns-then-len-lt1 c = rw (eq-eqb _ 2 c.if-h-ne-EDGED.false, lt-leb 1 _ c.if-len-lt1.true)

pub returns : goal.returns
returns c = rw (eq-eqb _ 2 c.if-h-ne-EDGED.false, le-leb 1 _ c.if-len-lt1.false)
