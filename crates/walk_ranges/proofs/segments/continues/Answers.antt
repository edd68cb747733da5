use native.Mathlib.Omega.{arith}
use Rattle.walk_steps.proofs.StepLaws.{field-there}
use Rattle.walk_ranges.proofs.NextSegmentLaws as laws
use Rattle.walk_ranges.proofs.segments.continues.Goals as goal

pub returns-then-count-number : goal.returns-then-count-number
returns-then-count-number c = laws.continues-past _ _ _ _ _ c.level_count-count.ensures c.if-count-number.true

pub kind-kind-requires : goal.kind-kind-requires
kind-kind-requires c = field-there _ _ _ _ _ 1 c.requires (omega (arith, c.level_count-count.ensures, c.if-count-number.false)) (omega arith)

pub returns-then-kind-ne0 : goal.returns-then-kind-ne0
returns-then-kind-ne0 c = laws.continues-none _ _ _ _ _ c.kind-kind.ensures c.if-kind-ne0.true
    (omega (arith, c.level_count-count.ensures, c.if-count-number.false))

pub link-first-requires : goal.link-first-requires
link-first-requires c = field-there _ _ _ _ _ 2 c.requires (omega (arith, c.level_count-count.ensures, c.if-count-number.false)) (omega arith)

pub returns : goal.returns
returns c = laws.continues-link _ _ _ _ _ c.kind-kind.ensures c.if-kind-ne0.false
    (omega (arith, c.level_count-count.ensures, c.if-count-number.false))
    _ c.link-first.ensures
