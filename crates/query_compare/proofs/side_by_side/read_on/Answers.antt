use Rattle.query_compare.proofs.SideBySideLaws as laws
use Rattle.query_compare.proofs.side_by_side.read_on.Goals as goal

pub run_from-first-requires : goal.run_from-first-requires
run_from-first-requires c = (c.requires.0, (laws.below_both _ _ _ _ c.requires.0 c.requires.1 _ c.requires.3).0, c.requires.2.reads)

pub returns-in_default : goal.returns-in_default
returns-in_default c = laws.compare-broken _ _ _
    c.requires.2 (laws.below-shortest _ _ _ _ c.requires.0 c.requires.1 _ c.requires.3) _ c.run_from-first.ensures _ c.in_default.is

pub run_from-second-requires : goal.run_from-second-requires
run_from-second-requires c = (c.requires.1, (laws.below_both _ _ _ _ c.requires.0 c.requires.1 _ c.requires.3).1, c.requires.2.other_reads)

pub returns-in_default-second : goal.returns-in_default-second
returns-in_default-second c = laws.compare-broken-2 _ _ _
    c.requires.2 (laws.below-shortest _ _ _ _ c.requires.0 c.requires.1 _ c.requires.3) _ c.run_from-first.ensures
    _ c.in-Ok.is _ c.run_from-second.ensures _ c.in_default-second.is

pub compare_runs-requires : goal.compare_runs-requires
compare_runs-requires c = laws.compare-runs _ _ _ c.requires.2
    (laws.below-shortest _ _ _ _ c.requires.0 c.requires.1 _ c.requires.3) _ c.run_from-first.ensures _
    c.in-Ok.is _ c.run_from-second.ensures _ c.in-Ok-second.is

pub returns : goal.returns
returns c = c.compare_runs.ensures
