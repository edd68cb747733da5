use native.Mathlib.Omega.{arith}
use Rattle.layout.proofs.ShapeLaws.{shapes}
use Rattle.walk_steps.proofs.StepLaws.{b-pos}
use Rattle.walk_path.proofs.WalkLaws as laws
use Rattle.walk_path.proofs.walk.Goals as goal

pub top_position-position-requires : goal.top_position-position-requires
top_position-position-requires c = b-pos _ _ _ _ c.requires.0

pub shape_of-shape-requires : goal.shape_of-shape-requires
shape_of-shape-requires c = c.requires.0.facts.long

pub packed-requires : goal.packed-requires
packed-requires c = let x = shapes _ _ c.shape_of-shape.ensures in
    let may = laws.top-may _ _ _ _ c.requires.0 _ c.top_position-position.ensures c.requires.1 in
    let f = laws.last_fits _ _ _ _ _ _ (record { entered = 0; left = 0 }) may (omega (arith, c.if-shape-eq1.true, x.levels_is))
    (rw x.offset_is at c.shape_of-shape.type_inv.1.1.1.1.1.0.1) in
    (f.0, f.1, f.2, c.requires.2)

pub returns-then-shape-eq1 : goal.returns-then-shape-eq1
returns-then-shape-eq1 c = let x = shapes _ _ c.shape_of-shape.ensures in
    let may = laws.top-may _ _ _ _ c.requires.0 _ c.top_position-position.ensures c.requires.1 in
    laws.top-by _ _ _ _ c.requires.0 _ c.top_position-position.ensures _ _
    (laws.last-walked _ _ _ _ _ _ _ may (omega (arith, c.if-shape-eq1.true, x.levels_is)) _ c.packed.ensures)

pub pointing_step-requires : goal.pointing_step-requires
pointing_step-requires c = let x = shapes _ _ c.shape_of-shape.ensures in (
  laws.top-may _ _ _ _ c.requires.0 _ c.top_position-position.ensures c.requires.1,
  omega (arith, c.if-shape-eq1.false, x.levels_is, c.requires.0.facts.bounds.levels_low),
)

pub returns : goal.returns
returns c = laws.top-by _ _ _ _ c.requires.0 _ c.top_position-position.ensures _ _ c.pointing_step.ensures
