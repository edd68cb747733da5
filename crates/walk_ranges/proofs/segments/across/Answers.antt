use mathlib.Core.Path.{◌∙◌}
use native.Mathlib.Omega.{arith}
use Rattle.std.specs.Prelude.{◌≡◌}
use Rattle.layout.proofs.ShapeLaws.{shapes}
use Rattle.walk_ranges.proofs.NextSegmentLaws as laws
use Rattle.walk_ranges.proofs.segments.across.Goals as goal

pub returns-then-rules-eq0 : goal.returns-then-rules-eq0
returns-then-rules-eq0 c =
    let none : c.args.rules.pointers ≡ 0 = c.if-rules-eq0.true in
    rw none (laws.across-none _ c.requires.0.on.facts _ c.requires.0.on.level_in _ _ c.requires.0.points (omega (arith, c.requires.0.place-in, c.requires.0.on.b_is)))

pub shape_of-shape-requires : goal.shape_of-shape-requires
shape_of-shape-requires c = c.requires.0.on.facts.long

pub overflow_add-on : goal.overflow_add-on
overflow_add-on c = record { fits = omega (arith, c.requires.0.on.level_in, c.requires.0.on.facts.bounds.levels_high) }

pub returns-then-on-shape : goal.returns-then-on-shape
returns-then-on-shape c = laws.across-last _ c.requires.0.on.facts _ c.requires.0.on.level_in _ _ c.requires.0.points (omega (arith, c.requires.0.place-in, c.requires.0.on.b_is))
    (c.if-on-shape.true ∙ (shapes _ _ c.shape_of-shape.ensures).levels_is) _

pub targets-beside-requires : goal.targets-beside-requires
targets-beside-requires c = c.requires.0

pub overflow_sub-on : goal.overflow_sub-on
overflow_sub-on c = omega (arith, c.requires.0.place-in)

pub returns : goal.returns
returns c = laws.across-next _ c.requires.0.on.facts _ c.requires.0.on.level_in _ _ _ _ _ _ _ c.requires.0 c.if-rules-eq0.false
    (λ e. omega (arith, c.if-on-shape.false, (shapes _ _ c.shape_of-shape.ensures).levels_is)) c.requires.1 c.min.ensures _
    c.targets-beside.ensures
