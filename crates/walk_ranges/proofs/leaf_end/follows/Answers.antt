use native.Mathlib.Omega.{arith}
use Rattle.walk_ranges.proofs.LeafEndLaws as laws
use Rattle.walk_ranges.proofs.leaf_end.follows.Goals as goal

pub returns-then-count-number : goal.returns-then-count-number
returns-then-count-number c = laws.follows-past _ _ c.requires _ _ _ c.level_count-count.ensures c.if-count-number.true

pub kind-kind-requires : goal.kind-kind-requires
kind-kind-requires c = laws.last-field _ _ c.requires _ 1 (laws.in_table _ _ c.requires _ 0 _ c.level_count-count.ensures (omega (arith, c.if-count-number.false))) (omega arith)

pub returns-then-kind-ne0 : goal.returns-then-kind-ne0
returns-then-kind-ne0 c = laws.follows-none _ _ c.requires _ _ (laws.last-unkept _ _ c.requires _ _ c.kind-kind.ensures
    (laws.in_table _ _ c.requires _ 0 _ c.level_count-count.ensures (omega (arith, c.if-count-number.false))) c.if-kind-ne0.true)

pub link-link-requires : goal.link-link-requires
link-link-requires c = laws.last-field _ _ c.requires _ 2 (laws.in_table _ _ c.requires _ 0 _ c.level_count-count.ensures (omega (arith, c.if-count-number.false))) (omega arith)

pub returns : goal.returns
returns c = laws.follows-link _ _ c.requires _ _ (laws.last-kept _ _ c.requires _ _ c.kind-kind.ensures
    (laws.in_table _ _ c.requires _ 0 _ c.level_count-count.ensures (omega (arith, c.if-count-number.false))) c.if-kind-ne0.false) _ c.link-link.ensures
