use native.Mathlib.Omega.{arith}
use Rattle.check_counts.proofs.BlockCountsLaws as laws
use Rattle.check_counts.proofs.CountsHeader as facts
use Rattle.check_counts.proofs.block_counts.pointing_skip.Goals as goal

pub gap-gap-requires : goal.gap-gap-requires
gap-gap-requires c = facts.plain-there _ _ _ _ _ c.requires.1 3 (omega arith)

pub returns-then-gap-eq0 : goal.returns-then-gap-eq0
returns-then-gap-eq0 c = laws.no_gap _ _ _ _ _ c.requires.1 c.requires.2 c.requires.3 _ c.gap-gap.ensures c.if-gap-eq0.true

pub link-link-requires : goal.link-link-requires
link-link-requires c = facts.plain-there _ _ _ _ _ c.requires.1 2 (omega arith)

pub up_to-requires : goal.up_to-requires
up_to-requires c = (
  c.requires.0,
  laws.points-above _ _ _ _ _ c.requires.1 c.requires.2 c.requires.3,
  laws.gap-there _ _ _ _ _ c.requires.1 c.requires.2 c.requires.3 _ c.gap-gap.ensures c.if-gap-eq0.false _ c.link-link.ensures,
)

pub returns : goal.returns
returns c = laws.gap_is _ _ _ _ _ c.requires.1 c.requires.2 c.requires.3 _ c.gap-gap.ensures c.if-gap-eq0.false _ c.link-link.ensures _ c.up_to.ensures
