use native.Mathlib.Omega.{arith}
use Rattle.check_links.proofs.BlockLinksLaws as laws
use Rattle.check_links.proofs.block_links.width.Goals as goal

pub kind-kind-requires : goal.kind-kind-requires
kind-kind-requires c = laws.there _ _ c.requires.0 _ 1 c.requires.1 (omega arith)

pub returns-then-kind-ne0 : goal.returns-then-kind-ne0
returns-then-kind-ne0 c = laws.width-none _ _
    c.requires.0 _ (laws.other-kind _ _ c.requires.0 _ _ c.kind-kind.ensures c.if-kind-ne0.true)

pub start-start-requires : goal.start-start-requires
start-start-requires c = laws.there _ _ c.requires.0 _ 0 c.requires.1 (omega arith)

pub returns-then-length-v : goal.returns-then-length-v
returns-then-length-v c = laws.width-full _ _ c.requires.0 _ _ _ (laws.kept-kind _ _ c.requires.0 _ _ c.kind-kind.ensures
    c.if-kind-ne0.false) c.start-start.ensures c.length_from-length.ensures.0 c.if-length-v.true

pub pieces-requires : goal.pieces-requires
pieces-requires c = (omega (arith, c.length_from-length.ensures.1, laws.full_high _ _ c.requires.0), laws.part_low _ _ c.requires.0, laws.part-high _ _ c.requires.0)

pub returns : goal.returns
returns c = laws.width-kept _ _ c.requires.0 _ _ _ _ (laws.kept-kind _ _ c.requires.0
    _ _ c.kind-kind.ensures c.if-kind-ne0.false) c.start-start.ensures c.length_from-length.ensures.0 c.pieces.ensures
