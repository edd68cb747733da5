use mathlib.Core.Path.{refl, ◌∙◌}
use native.Mathlib.Omega.{arith}
use Rattle.walk_short.proofs.PackedLaws.{unpacked-none}
use Rattle.walk_short.proofs.GatherLaws as laws
use Rattle.walk_short.proofs.gather.over.Goals as goal

pub returns-then-count-number : goal.returns-then-count-number
returns-then-count-number c = unpacked-none _ _ refl
    ∙ laws.over_none _ _ _ _ _ _ c.requires _ (omega (arith, c.level_count-count.ensures))

pub read-m-requires : goal.read-m-requires
read-m-requires c = omega (arith, c.requires.on.facts.long)

pub read-counted-requires : goal.read-counted-requires
read-counted-requires c = omega (arith, c.requires.on.facts.long)

pub edges-edges-requires : goal.edges-edges-requires
edges-edges-requires c = laws.edges-asked _ _ _ _ _ _ c.requires _ c.read-counted.ensures

pub overflow_add-m : goal.overflow_add-m
overflow_add-m c = omega (arith, (laws.leaf_few _ _ _ _ _ _ c.requires _ c.read-m.ensures).0)

pub overflow_sub-m : goal.overflow_sub-m
overflow_sub-m c = omega (arith, (laws.leaf_few _ _ _ _ _ _ c.requires _ c.read-m.ensures).1)

pub pack-requires : goal.pack-requires
pack-requires c = let z = laws.over-small _ _ _ _ _ _ c.requires _ _ c.read-m.ensures c.edges-edges.ensures.1 in (omega arith, z.0, z.1, z.2)

pub returns : goal.returns
returns c = laws.over-packed _ _ _ _ _ _ c.requires _ _ _ (omega (arith, c.level_count-count.ensures, c.if-count-number.false))
    c.edges-edges.ensures.0 c.read-m.ensures _ c.pack.ensures
