use native.Mathlib.Omega.{arith}
use Rattle.check_links.proofs.BlockLinksLaws as laws
use Rattle.check_links.proofs.block_links.block_right.Goals as goal

pub kind-kind-requires : goal.kind-kind-requires
kind-kind-requires c = laws.there _ _ c.requires.0 _ 1 c.requires.1 (omega arith)

pub returns-then-kind-eq0 : goal.returns-then-kind-eq0
returns-then-kind-eq0 c = laws.block-kept _ _
    c.requires.0 _ _ c.kind-kind.ensures _ c.if-kind-eq0.true c.kept_right.ensures

pub returns : goal.returns
returns c = laws.block-pointing
    _ _ c.requires.0 _ _ c.kind-kind.ensures _ c.if-kind-eq0.false c.pointing_right.ensures
