use mathlib.Core.Path.{refl}
use native.Mathlib.Omega.{arith}
use Rattle.walk_ranges.proofs.LeafEndLaws.{last-field}
use Rattle.walk_group.proofs.GroupLaws as laws
use Rattle.walk_group.proofs.leaf_byte.Goals as goal

pub kind-kind-requires : goal.kind-kind-requires
kind-kind-requires c = last-field _ _ c.requires.0 _ 1 c.requires.1.block_in (omega arith)

pub returns-then-kind-ne0 : goal.returns-then-kind-ne0
returns-then-kind-ne0 c = laws.byte-other _ _ c.requires.0 _ _ c.requires.1 _ c.kind-kind.ensures c.if-kind-ne0.true

pub link-link-requires : goal.link-link-requires
link-link-requires c = last-field _ _ c.requires.0 _ 2 c.requires.1.block_in (omega arith)

pub returns-then-h-leaf : goal.returns-then-h-leaf
returns-then-h-leaf c = laws.byte_past _ _ c.requires.0 _ _ c.requires.1 _ c.kind-kind.ensures c.if-kind-ne0.false _ c.link-link.ensures c.if-h-leaf.true

pub bounds-t-h : goal.bounds-t-h
bounds-t-h c = omega (arith, c.requires.0.count_is, c.requires.0.offset_is, c.if-h-leaf.false, c.requires.0.facts.size)

pub returns : goal.returns
returns c = laws.byte-there _ _ c.requires.0 _ _ c.requires.1 _ c.kind-kind.ensures c.if-kind-ne0.false _ c.link-link.ensures c.if-h-leaf.false _ refl
