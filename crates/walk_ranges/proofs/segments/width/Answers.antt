use mathlib.Core.Path.{◌∙◌}
use native.Mathlib.Omega.{arith}
use Rattle.layout.proofs.ShapeLaws.{shapes}
use Rattle.walk_ranges.proofs.NextSegmentLaws as laws
use Rattle.walk_ranges.proofs.segments.width.Goals as goal

pub returns-then-on-shape : goal.returns-then-on-shape
returns-then-on-shape c = c.requires.1 ∙ laws.width-last _ _ (c.if-on-shape.true ∙ (shapes _ _ c.shape_of-shape.ensures).levels_is)

pub returns : goal.returns
returns c = let x = shapes _ _ c.shape_of-shape.ensures in
    x.arity_is ∙ laws.width_above _ _ (λ e. omega (arith, c.if-on-shape.false, x.levels_is))
