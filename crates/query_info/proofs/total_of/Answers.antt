use Rattle.query_info.proofs.InfoLaws as laws
use Rattle.query_info.proofs.total_of.Goals as goal

pub returns-then-h-c : goal.returns-then-h-c
returns-then-h-c c = laws.no-total _ _ c.requires _ c.if-h-c.true

pub returns : goal.returns
returns c = laws.total-answered _ _ c.requires _ _ c.if-h-c.false c.total.ensures
