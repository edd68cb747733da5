use native.Mathlib.Omega.{arith}
use Rattle.check_links.proofs.BlockLinksLaws as laws
use Rattle.check_links.proofs.block_links.target_right.Goals as goal

pub returns-then-v-target : goal.returns-then-v-target
returns-then-v-target c = laws.target_none _ _ c.requires _ _ _ _ c.if-v-target.true

pub kind-target_kind-requires : goal.kind-target_kind-requires
kind-target_kind-requires c = laws.there _ _ c.requires _ 1 c.if-v-target.false (omega arith)

pub returns-then-target_kind-ne0 : goal.returns-then-target_kind-ne0
returns-then-target_kind-ne0 c = laws.target-points _ _
    c.requires _ _ _ _ c.if-v-target.false _ c.kind-target_kind.ensures c.if-target_kind-ne0.true

pub start-from-requires : goal.start-from-requires
start-from-requires c = laws.there _ _ c.requires _ 0 c.if-v-target.false (omega arith)

pub returns : goal.returns
returns c = laws.target-ends _ _ c.requires
    _ _ _ _ c.if-v-target.false _ c.kind-target_kind.ensures _ c.if-target_kind-ne0.false c.start-from.ensures
