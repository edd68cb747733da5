use mathlib.Core.Path.{◌∙◌}
use native.Mathlib.Omega.{arith}
use Rattle.layout.proofs.ShapeLaws.{shapes}
use Rattle.query_select.proofs.LandLaws as laws
use Rattle.query_select.proofs.seek.+kept_step_pointing_step.Goals as goal

pub kept_step-shape_of-shape-requires : goal.kept_step-shape_of-shape-requires
kept_step-shape_of-shape-requires t c = c.requires.0.on.facts.long

pub kept_step-overflow_add-down : goal.kept_step-overflow_add-down
kept_step-overflow_add-down t c = record { fits = omega (arith, c.requires.0.on.level_in, c.requires.0.on.facts.bounds.levels_high) }

pub kept_step-leaf_place-requires : goal.kept_step-leaf_place-requires
kept_step-leaf_place-requires t c = (c.requires.0, c.requires.1, c.if-down-shape.true ∙ (shapes _ _ c.shape_of-shape.ensures).levels_is)

pub kept_step-returns-then-down-shape : goal.kept_step-returns-then-down-shape
kept_step-returns-then-down-shape t c = c.leaf_place.ensures

pub kept_step-quotient-below-requires : goal.kept_step-quotient-below-requires
kept_step-quotient-below-requires t c = omega (arith, (shapes _ _ c.shape_of-shape.ensures).arity_is, c.requires.0.on.facts.bounds.arity_low)

pub kept_step-child_with-next-requires : goal.kept_step-child_with-next-requires
kept_step-child_with-next-requires t c = let low = laws.lower-level _ _ _ _ _ _ c.requires.0.on (shapes _ _ c.shape_of-shape.ensures) c.if-down-shape.false c.quotient-below.ensures in
    (c.requires.0, low, c.requires.1.number_in, c.requires.1.low)

pub kept_step-returns-in_default : goal.kept_step-returns-in_default
kept_step-returns-in_default t c = laws.no-child _ _ _ _ _ _ _ c.requires.0 c.requires.1 _ (c.child_with-next.ensures.off c.in_default.is)

pub kept_step-enter-further-requires : goal.kept_step-enter-further-requires
kept_step-enter-further-requires t c = (omega (arith, c.requires.1.near, c.requires.1.on.level_in, c.requires.1.on.facts.bounds.levels_high), omega arith)

pub kept_step-pointing_step-requires : goal.kept_step-pointing_step-requires
kept_step-pointing_step-requires t c = let low = laws.lower-level _ _ _ _ _ _ c.requires.0.on (shapes _ _ c.shape_of-shape.ensures) c.if-down-shape.false c.quotient-below.ensures in
    let z = c.child_with-next.ensures.chosen _ c.in-Some.is in (
      omega (arith, c.decreases, low.level_in),
      (record { on = low; block_in = z.in_table }, laws.to-child _ _ _ _ _ _ _ _ c.requires.0 c.requires.1 low _ _ _ _ z c.enter-further.ensures),
    )

pub kept_step-returns : goal.kept_step-returns
kept_step-returns t c = let low = laws.lower-level _ _ _ _ _ _ c.requires.0.on (shapes _ _ c.shape_of-shape.ensures) c.if-down-shape.false c.quotient-below.ensures in
    let z = c.child_with-next.ensures.chosen _ c.in-Some.is in
    laws.by-child _ _ _ _ _ _ _ _ c.requires.0 c.requires.1 low _ _ _ _ z c.enter-further.ensures _ c.pointing_step.ensures

pub pointing_step-to_kept-there-requires : goal.pointing_step-to_kept-there-requires
pointing_step-to_kept-there-requires t c = c.requires

pub pointing_step-returns-in_default : goal.pointing_step-returns-in_default
pointing_step-returns-in_default t c = laws.not-handed _ _ _ _ _ _ _ _ c.to_kept-there.ensures c.in_default.is _

pub pointing_step-kept_step-requires : goal.pointing_step-kept_step-requires
pointing_step-kept_step-requires t c = let z = c.to_kept-there.ensures.to _ c.in-Some.is in
    (omega (arith, c.decreases), (z.kept, z.seeks))

pub pointing_step-returns : goal.pointing_step-returns
pointing_step-returns t c = (c.to_kept-there.ensures.to _ c.in-Some.is).found _ c.kept_step.ensures
