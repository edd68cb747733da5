use native.Mathlib.Omega.{arith}
use Rattle.check_links.proofs.BlockLinksLaws as laws
use Rattle.check_links.proofs.block_links.next_right.Goals as goal

pub returns-then-v-next : goal.returns-then-v-next
returns-then-v-next c = laws.next-none _ _ c.requires.0 _ c.if-v-next.true

pub kind-next_kind-requires : goal.kind-next_kind-requires
kind-next_kind-requires c = laws.there _ _ c.requires.0 _ 1 c.if-v-next.false (omega arith)

pub returns-then-next_kind-ne0 : goal.returns-then-next_kind-ne0
returns-then-next_kind-ne0 c = laws.next-points _ _ c.requires.0
    _ c.if-v-next.false _ c.kind-next_kind.ensures c.if-next_kind-ne0.true

pub start-from-requires : goal.start-from-requires
start-from-requires c = laws.there _ _ c.requires.0 _ 0 c.requires.1 (omega arith)

pub start-to-requires : goal.start-to-requires
start-to-requires c = laws.there _ _ c.requires.0
    _ 0 c.if-v-next.false (omega arith)

pub returns : goal.returns
returns c = laws.next-follows _ _ c.requires.0
    _ c.if-v-next.false _ c.kind-next_kind.ensures _ _ c.if-next_kind-ne0.false c.start-from.ensures c.start-to.ensures
