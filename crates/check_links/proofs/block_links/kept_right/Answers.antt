use native.Mathlib.Omega.{arith}
use Rattle.check_links.proofs.BlockLinksLaws as laws
use Rattle.check_links.proofs.block_links.kept_right.Goals as goal

pub link-link-requires : goal.link-link-requires
link-link-requires c = laws.there _ _ c.requires.0 _ 2 c.requires.1 (omega arith)

pub returns-then-link-before : goal.returns-then-link-before
returns-then-link-before c = laws.kept-link _ _ c.requires.0 _ _ c.args.width _ c.requires.2 c.link-link.ensures c.if-link-before.true

pub gap-gap-requires : goal.gap-gap-requires
gap-gap-requires c = laws.there _ _ c.requires.0 _ 3 c.requires.1 (omega arith)

pub returns-then-gap-ne0 : goal.returns-then-gap-ne0
returns-then-gap-ne0 c = laws.kept-gap _ _
    c.requires.0 _ _ c.args.width _ c.requires.2 c.link-link.ensures c.if-link-before.false _ c.gap-gap.ensures c.if-gap-ne0.true

pub returns-then-v : goal.returns-then-v
returns-then-v c = laws.kept-last _ _ c.requires.0 _ _ c.args.width
    _ c.requires.2 c.link-link.ensures c.if-link-before.false _ c.gap-gap.ensures c.if-gap-ne0.false c.if-v.true

pub start-start-requires : goal.start-start-requires
start-start-requires c = laws.there _ _ c.requires.0 _ 0 c.requires.1 (omega arith)

pub returns : goal.returns
returns c = laws.kept-children _ _ c.requires.0 _ _ c.args.width
    _ c.requires.2 c.link-link.ensures c.if-link-before.false _ c.gap-gap.ensures c.if-gap-ne0.false
    c.if-v.false _ _ c.requires.3 c.start-start.ensures c.children_right.ensures
