use mathlib.Core.Path.{◌∙◌}
use native.Mathlib.Omega.{arith}
use Rattle.layout.proofs.ShapeLaws.{shapes}
use Rattle.walk_steps.proofs.StepLaws.{field-there, pointing-in}
use Rattle.query_select.proofs.LandLaws as laws
use Rattle.query_select.proofs.seek.from_pointer.Goals as goal

pub shape_of-shape-requires : goal.shape_of-shape-requires
shape_of-shape-requires c = c.requires.0.on.facts.long

pub overflow_add-on : goal.overflow_add-on
overflow_add-on c = record { fits = omega (arith, c.requires.0.on.level_in, c.requires.0.on.facts.bounds.levels_high) }

pub returns-then-on-shape : goal.returns-then-on-shape
returns-then-on-shape c = laws.last-points _ _ _ _ _ _ _ c.requires.0 c.requires.1 (c.if-on-shape.true ∙ (shapes _ _ c.shape_of-shape.ensures).levels_is)

pub gap-gap-requires : goal.gap-gap-requires
gap-gap-requires c = field-there _ _ _ _ _ 3 c.requires.0.on (pointing-in _ _ _ c.requires.0.points) (omega arith)

pub target_with-requires : goal.target_with-requires
target_with-requires c = (c.requires.0, c.requires.1.number_in, c.requires.1.low, omega (arith, c.requires.1.few, c.requires.0.on.level_in, c.requires.0.on.facts.bounds.levels_high))

pub enter-requires : goal.enter-requires
enter-requires c = (
  omega (arith, c.requires.1.near, c.requires.1.on.level_in, c.requires.1.on.facts.bounds.levels_high),
  laws.gap_small _ _ _ _ _ _ _ c.requires.0 c.requires.1 _ c.gap-gap.ensures,
)

pub returns : goal.returns
returns c = laws.pointer-to _ _ _ _ _ _ _ c.requires.0 c.requires.1 _ c.target_with.ensures _ _ _ c.in_ok-target.was
    c.gap-gap.ensures c.enter.ensures
