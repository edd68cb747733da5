use Rattle.query_select.proofs.SeekLaws as laws
use Rattle.query_select.proofs.seek.children.Goals as goal

pub returns-then-bytes-b : goal.returns-then-bytes-b
returns-then-bytes-b c = laws.pieces-full _ _ _ _ c.if-bytes-b.true c.requires.3 c.requires.1
