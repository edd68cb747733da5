use native.Mathlib.Omega.{arith}
use Rattle.check_counts.proofs.BlockCountsLaws as laws
use Rattle.check_counts.proofs.CountsHeader as facts
use Rattle.layout.proofs.AnswerTests.{failed, held}
use Rattle.check_counts.proofs.block_counts.block_right.Goals as goal

pub returns-then-not-before_right : goal.returns-then-not-before_right
returns-then-not-before_right c = laws.block-before _ _ _ _ _ c.requires.3 (failed c.before_right.ensures c.if-not-before_right.true-raw)

pub kind-kind-requires : goal.kind-kind-requires
kind-kind-requires c = facts.plain-there _ _ _ _ _ c.requires.3 1 (omega arith)

pub kept_right-requires : goal.kept_right-requires
kept_right-requires c = (c.requires.0, c.requires.2, c.requires.3, facts.kept_of _ _ _ _ c.kind-kind.ensures c.if-kind-eq0.true)

pub returns-then-kind-eq0 : goal.returns-then-kind-eq0
returns-then-kind-eq0 c = laws.block-kept _ _ _ _ _ c.requires.3 (held c.before_right.ensures c.if-not-before_right.false-raw)
    (facts.kept_of _ _ _ _ c.kind-kind.ensures c.if-kind-eq0.true) _ c.kept_right.ensures

pub pointing_right-requires : goal.pointing_right-requires
pointing_right-requires c = (c.requires.0, c.requires.3, facts.points-of _ _ _ _ c.kind-kind.ensures c.if-kind-eq0.false, c.requires.4)

pub returns : goal.returns
returns c = laws.block-points _ _ _ _ _ c.requires.3 (held c.before_right.ensures c.if-not-before_right.false-raw)
    (facts.points-of _ _ _ _ c.kind-kind.ensures c.if-kind-eq0.false) _ c.pointing_right.ensures
