use Rattle.query_rank.proofs.SumsLaws as laws
use Rattle.query_rank.proofs.sums.Sum.enter.Goals as goal

pub returns : goal.returns
returns c = laws.rank-onward-is _ _ _
