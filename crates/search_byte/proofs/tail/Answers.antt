use Rattle.search_byte.proofs.FirstByteLaws as laws
use Rattle.search_byte.proofs.tail.Goals as goal

pub returns-then-n-k : goal.returns-then-n-k
returns-then-n-k c = laws.first_past _ _ _ _ _ _ c.first_of_16-k.ensures c.if-n-k.true

pub returns : goal.returns
returns c = laws.first-within _ _ _ _ _ _ c.first_of_16-k.ensures c.requires.1 c.if-n-k.false
