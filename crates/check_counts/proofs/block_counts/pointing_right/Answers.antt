use Rattle.check_counts.proofs.BlockCountsLaws as laws
use Rattle.check_counts.proofs.CountsHeader as facts
use Rattle.check_counts.proofs.block_counts.pointing_right.Goals as goal

pub skip-skip-requires : goal.skip-skip-requires
skip-skip-requires c = facts.skip-there _ _ _ _ _ c.requires.1

pub returns-then-skip-skipped : goal.returns-then-skip-skipped
returns-then-skip-skipped c = laws.pointing-skips _ _ _ _ _
    c.requires.1 _ c.skip-skip.ensures _ c.pointing_skip-skipped.ensures c.if-skip-skipped.true

pub inside-requires : goal.inside-requires
inside-requires c = facts.inside-there _ _ _ _ _ c.requires.1

pub returns : goal.returns
returns c = laws.pointing-same _ _ _ _ _ c.requires.1 _ c.skip-skip.ensures
    _ c.pointing_skip-skipped.ensures c.if-skip-skipped.false _ _ c.inside.ensures c.pointing_inside-counted.ensures
