use Rattle.check_counts.proofs.BlockCountsLaws as laws
use Rattle.check_counts.proofs.CountsHeader as facts
use Rattle.check_counts.proofs.block_counts.kept_right.Goals as goal

pub skip-skip-requires : goal.skip-skip-requires
skip-skip-requires c = facts.skip-there _ _ _ _ _ c.requires.2

pub returns-then-skip-ne0 : goal.returns-then-skip-ne0
returns-then-skip-ne0 c = laws.kept-skips _ _ _ _ _ c.requires.2 _ c.skip-skip.ensures c.if-skip-ne0.true

pub inside-inside-requires : goal.inside-inside-requires
inside-inside-requires c = facts.inside-there _ _ _ _ _ c.requires.2

pub returns : goal.returns
returns c = laws.kept_same _ _ _ _ _
    c.requires.2 _ c.skip-skip.ensures c.if-skip-ne0.false _ _ c.inside-inside.ensures c.kept_inside.ensures
