use native.Mathlib.Omega.{arith}
use Rattle.walk_steps.proofs.StepLaws as laws
use Rattle.walk_steps.proofs.classify_block.Goals as goal

pub kind-kind-requires : goal.kind-kind-requires
kind-kind-requires c = laws.field-there _ _ _ _ _ 1 c.requires.on c.requires.block_in (omega arith)

pub returns-then-kind-eq0 : goal.returns-then-kind-eq0
returns-then-kind-eq0 c = laws.classify-kept _ _ _ _ _ _ _ c.requires c.kind-kind.ensures c.if-kind-eq0.true

pub returns-then-kind-ne1 : goal.returns-then-kind-ne1
returns-then-kind-ne1 c = laws.classify-other _ _ _ _ _ _ _ c.requires c.kind-kind.ensures c.if-kind-eq0.false c.if-kind-ne1.true

pub gap-gap-requires : goal.gap-gap-requires
gap-gap-requires c = laws.field-there _ _ _ _ _ 3 c.requires.on c.requires.block_in (omega arith)

pub returns-then-gap-b : goal.returns-then-gap-b
returns-then-gap-b c = laws.classify-points _ _ _ _ _ _ _ c.requires
    c.kind-kind.ensures _ c.gap-gap.ensures c.if-kind-eq0.false c.if-kind-ne1.false c.if-gap-b.true

pub returns : goal.returns
returns c = laws.classify-wide _ _ _ _ _ _ _ c.requires
    c.kind-kind.ensures _ c.gap-gap.ensures c.if-kind-eq0.false c.if-kind-ne1.false c.if-gap-b.false
