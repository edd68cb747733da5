use Rattle.search_byte.proofs.FirstByteLaws as laws
use Rattle.search_byte.proofs.bit.Goals as goal

pub returns-then-a-b : goal.returns-then-a-b
returns-then-a-b c = laws.bit-same _ _ c.if-a-b.true

pub returns : goal.returns
returns c = laws.bit-other _ _ c.if-a-b.false
