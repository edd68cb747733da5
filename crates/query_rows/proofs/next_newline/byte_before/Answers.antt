use Rattle.query_rows.proofs.NewlineLaws as laws
use Rattle.query_rows.proofs.next_newline.byte_before.Goals as goal

pub returns-then-i-eq0 : goal.returns-then-i-eq0
returns-then-i-eq0 c = laws.before-first _ _ _ c.if-i-eq0.true

pub returns : goal.returns
returns c = laws.before-later _ _ _ c.if-i-eq0.false
