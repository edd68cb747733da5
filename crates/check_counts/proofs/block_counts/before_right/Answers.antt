use native.Mathlib.Omega.{arith}
use Rattle.check_counts.proofs.BlockCountsLaws as laws
use Rattle.check_counts.proofs.CountsHeader as facts
use Rattle.check_counts.proofs.block_counts.before_right.Goals as goal

pub before-before-requires : goal.before-before-requires
before-before-requires c = facts.before-there _ _ _ _ _ c.requires.1

pub start-start-requires : goal.start-start-requires
start-start-requires c = facts.plain-there _ _ _ _ _ c.requires.1 0 (omega arith)

pub nonzero_rem-apart : goal.nonzero_rem-apart
nonzero_rem-apart c = laws.up_above _ _ _ _ _ c.requires.1 _ _ _ c.requires.0 c.before-before.ensures c.start-start.ensures

pub returns-then-apart-eq0 : goal.returns-then-apart-eq0
returns-then-apart-eq0 c = laws.before-start _ _ _ _ _
    c.requires.1 _ _ _ c.requires.0 c.before-before.ensures c.start-start.ensures c.if-apart-eq0.true

pub overflow_sub-left : goal.overflow_sub-left
overflow_sub-left c = laws.left-low _ _ _ _ _ c.requires.1
    _ _ _ c.requires.0 c.before-before.ensures c.start-start.ensures c.if-apart-eq0.false

pub before-to_left-requires : goal.before-to_left-requires
before-to_left-requires c = facts.before-there _ _ _ _ _ (laws.left_there _ _ _ _ _ c.requires.1
    _ _ _ c.requires.0 c.before-before.ensures c.start-start.ensures c.if-apart-eq0.false)

pub inside-in_left-requires : goal.inside-in_left-requires
inside-in_left-requires c = facts.inside-there _ _ _ _ _ (laws.left_there _ _ _ _ _ c.requires.1
    _ _ _ c.requires.0 c.before-before.ensures c.start-start.ensures c.if-apart-eq0.false)

pub returns : goal.returns
returns c = laws.before-left _ _ _ _ _ c.requires.1 _ _ _ c.requires.0 c.before-before.ensures
    c.start-start.ensures c.if-apart-eq0.false _ _ c.before-to_left.ensures c.inside-in_left.ensures
