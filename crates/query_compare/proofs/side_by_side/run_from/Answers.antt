use Rattle.query_compare.proofs.SideBySideLaws as laws
use Rattle.query_compare.proofs.side_by_side.run_from.Goals as goal

pub returns-then-held-gt0 : goal.returns-then-held-gt0
returns-then-held-gt0 c = (c.requires.2, c.if-held-gt0.true)

pub returns : goal.returns
returns c = laws.read-anew c.args.t.now c.args.at.0 1024 c.range_at.result c.range_at.ensures
