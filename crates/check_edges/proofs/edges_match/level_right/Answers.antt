use mathlib.Core.Path.{sym, ◌∙◌}
use native.Mathlib.Omega.{arith}
use Rattle.check_edges.proofs.TruthLaws as laws
use Rattle.layout.specs.HeaderFields as header
use Rattle.check_edges.proofs.edges_match.level_right.Goals as goal

pub block_right-requires : goal.block_right-requires
block_right-requires c = laws.block-asks _ _
    c.requires.0 c.requires.1 _ _ _ c.requires.2 (header.full_is _ _ c.requires.0.header _ _ c.block_length-b.ensures) (omega (arith, c.level_count-n.ensures))

pub returns-then-not-block_right : goal.returns-then-not-block_right
returns-then-not-block_right c = laws.level-fails _ _ c.requires.0 _ _ c.level_count-n.ensures c.loop-i.i c.loop-i-test.true
    (sym c.block_right.ensures ∙ c.if-not-block_right.true)

pub returns : goal.returns
returns c = laws.level_holds _ _ c.requires.0 _ _ c.level_count-n.ensures _ c.loop-i.invariant c.loop-i-test.false
