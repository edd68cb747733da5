use Rattle.query_rows.proofs.RowBoundsLaws as laws
use Rattle.query_rows.proofs.row_bounds.strip_cr.Goals as goal

pub returns-then-len-eq0 : goal.returns-then-len-eq0
returns-then-len-eq0 c = laws.cr-empty _ c.args.before c.if-len-eq0.true

pub returns-then-before-eq13 : goal.returns-then-before-eq13
returns-then-before-eq13 c = laws.cr-cut _ _ c.if-len-eq0.false c.if-before-eq13.true

pub returns : goal.returns
returns c = laws.cr-kept _ _ c.if-len-eq0.false c.if-before-eq13.false
