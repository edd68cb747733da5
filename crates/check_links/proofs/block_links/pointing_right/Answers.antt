use native.Mathlib.Omega.{arith}
use Rattle.layout.proofs.AnswerTests.{failed, held}
use Rattle.check_links.proofs.BlockLinksLaws as laws
use Rattle.check_links.proofs.block_links.pointing_right.Goals as goal

pub kind-kind-requires : goal.kind-kind-requires
kind-kind-requires c = laws.there _ _ c.requires.0 _ 1 c.requires.1 (omega arith)

pub returns-then-kind-ne1 : goal.returns-then-kind-ne1
returns-then-kind-ne1 c = laws.pointing-kind _ _ c.requires.0 _ _ c.kind-kind.ensures c.if-kind-ne1.true

pub returns-then-v : goal.returns-then-v
returns-then-v c = laws.pointing-last _ _ c.requires.0 _ _ c.kind-kind.ensures c.if-kind-ne1.false c.if-v.true

pub gap-gap-requires : goal.gap-gap-requires
gap-gap-requires c = laws.there _ _ c.requires.0 _ 3 c.requires.1 (omega arith)

pub returns-then-v-gap : goal.returns-then-v-gap
returns-then-v-gap c = laws.pointing-gap _ _
    c.requires.0 _ _ c.kind-kind.ensures c.if-kind-ne1.false c.if-v.false _ c.gap-gap.ensures c.if-v-gap.true

pub link-requires : goal.link-requires
link-requires c = laws.there _ _ c.requires.0 _ 2 c.requires.1 (omega arith)

pub start-start-requires : goal.start-start-requires
start-start-requires c = laws.there _ _ c.requires.0 _ 0 c.requires.1 (omega arith)

pub returns-then-not-target_right : goal.returns-then-not-target_right
returns-then-not-target_right c = laws.pointing-target _ _ c.requires.0
    _ _ c.kind-kind.ensures c.if-kind-ne1.false c.if-v.false _ c.gap-gap.ensures c.if-v-gap.false
    _ _ _ c.link.ensures c.start-start.ensures
    c.length_from-length.ensures.0 (failed c.target_right.ensures c.if-not-target_right.true-raw)

pub overflow_add-gap : goal.overflow_add-gap
overflow_add-gap c = omega (
  arith,
  c.length_from-length.ensures.1,
  laws.full_high _ _ c.requires.0,
  c.if-v-gap.false,
)

pub returns-then-gap-length : goal.returns-then-gap-length
returns-then-gap-length c = laws.pointing-within _ _ c.requires.0 _ _ c.kind-kind.ensures
    c.if-kind-ne1.false c.if-v.false _ c.gap-gap.ensures c.if-v-gap.false
    _ _ _ c.link.ensures
    c.start-start.ensures c.length_from-length.ensures.0
    (held c.target_right.ensures c.if-not-target_right.false-raw) c.if-gap-length.true

pub next_right-requires : goal.next_right-requires
next_right-requires c = (
  c.requires.0,
  laws.target_in
      _ _ c.requires.0 _ _ _ _ (held c.target_right.ensures c.if-not-target_right.false-raw),
)

pub returns : goal.returns
returns c = laws.pointing-next _ _ c.requires.0 _ _ c.kind-kind.ensures
    c.if-kind-ne1.false c.if-v.false _ c.gap-gap.ensures c.if-v-gap.false
    _ _ _ c.link.ensures c.start-start.ensures c.length_from-length.ensures.0
    (held c.target_right.ensures c.if-not-target_right.false-raw)
    c.if-gap-length.false _ c.next_right.ensures
