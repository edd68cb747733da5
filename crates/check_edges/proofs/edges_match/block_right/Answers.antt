use mathlib.Core.Path.{sym, ◌∙◌}
use native.Mathlib.Omega.{arith}
use Rattle.check_edges.proofs.TruthLaws as laws
use Rattle.check_edges.proofs.edges_match.block_right.Goals as goal

pub leaf_right-requires : goal.leaf_right-requires
leaf_right-requires c = (c.requires, c.if-down-h.true)

pub returns-then-down-h : goal.returns-then-down-h
returns-then-down-h c = laws.last_block _ _ _ _ _ c.requires c.if-down-h.true _ c.leaf_right.ensures

pub is_full-requires : goal.is_full-requires
is_full-requires c = (c.requires, omega (arith, c.if-down-h.false))

pub child_right-requires : goal.child_right-requires
child_right-requires c = (c.requires, sym c.is_full.ensures ∙ c.if-is_full.true)

pub returns-then-is_full : goal.returns-then-is_full
returns-then-is_full c = laws.full_block _ _ _ _ _ c.requires
    (sym c.is_full.ensures ∙ c.if-is_full.true) _ c.child_right.ensures

pub walked_right-requires : goal.walked_right-requires
walked_right-requires c = c.requires

pub returns : goal.returns
returns c = laws.other_block _ _ _ _ _ c.requires
    (sym c.is_full.ensures ∙ c.if-is_full.false) _ c.walked_right.ensures
