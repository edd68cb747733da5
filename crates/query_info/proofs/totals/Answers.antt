use Rattle.query_info.proofs.InfoLaws as laws
use Rattle.query_info.proofs.totals.Goals as goal

pub returns : goal.returns
returns c = laws.four _ _ _ _ _
    c.total_of.ensures c.total_of-2.ensures c.total_of-3.ensures c.total_of-4.ensures
