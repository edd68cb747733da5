use mathlib.Core.Path.{refl, ◌∙◌}
use native.Mathlib.Omega.{arith}
use Rattle.layout.specs.Record.{field_in}
use Rattle.layout.proofs.ShapeLaws.{shapes}
use Rattle.walk_steps.proofs.StepLaws.{kept_in}
use Rattle.walk_short.proofs.PackedLaws.{unpacked-none}
use Rattle.walk_short.proofs.GatherLaws as laws
use Rattle.walk_short.proofs.gather.leaf_part.Goals as goal

pub shape_of-shape-requires : goal.shape_of-shape-requires
shape_of-shape-requires c = c.requires.0.long

pub link-link-requires : goal.link-link-requires
link-link-requires c = field_in _ c.requires.0 _ _ _ 2 c.requires.1 c.requires.2 (kept_in _ _ _ c.requires.3) (omega arith)

pub returns-then-shape-end : goal.returns-then-shape-end
returns-then-shape-end c = unpacked-none _ _ refl ∙ laws.leaf-past _ _ (shapes _ _ c.shape_of-shape.ensures) _ _ _ _ _ _ c.requires.3 c.link-link.ensures c.if-shape-end.true

pub pack-requires : goal.pack-requires
pack-requires c = (omega arith, omega (arith, c.requires.4), omega (arith, c.requires.5), omega (arith, c.shape_of-shape.type_inv, c.link-link.type_inv))

pub returns : goal.returns
returns c = laws.leaf-packed _ _ (shapes _ _ c.shape_of-shape.ensures) _ _ _ _ _ _ c.requires.3 c.link-link.ensures c.if-shape-end.false
    (omega (arith, c.requires.4)) (omega (arith, c.requires.5)) _ c.pack.ensures
