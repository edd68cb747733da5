use mathlib.Core.List.{List}
use mathlib.Core.Path.{◌≡◌, sym, ap, ◌∙◌}
use Prim.Native.Nat.{ℕ, ◌+◌, ◌/◌}
use native.Mathlib.Omega.{arith}
use Rattle.format.specs.Layout as at
use Rattle.layout.proofs.ShapeLaws.{Shapes, shapes}
use Rattle.walk_path.proofs.WalkLaws as laws
use Rattle.walk_path.proofs.+kept_step_pointing_step.Goals as goal

abbrev levels : List ℕ → ℕ
levels t = (at.settings t).levels

pub kept_step-shape_of-shape-requires : goal.kept_step-shape_of-shape-requires
kept_step-shape_of-shape-requires t c = c.requires.0.on.facts.long

pub kept_step-enter-further-requires : goal.kept_step-enter-further-requires
kept_step-enter-further-requires t c = (laws.entered-fits _ _ _ _ _ _ _ c.requires.0, c.requires.0.place-in)

pub kept_step-child-child-requires : goal.kept_step-child-child-requires
kept_step-child-child-requires t c = laws.asks-child _ _ _ _ _ _ _ c.requires.0 (λ last. omega (arith, c.requires.1)) _ c.requires.2

pub kept_step-returns-in_default : goal.kept_step-returns-in_default
kept_step-returns-in_default t c =
    let above : c.args.level + 1 ≡ levels c.args.t.now.now → ⊥ = λ last. omega (arith, c.requires.1) in
    let below : c.args.below ≡ c.args.b / (at.settings c.args.t.now.now).arity = c.requires.2 in
    sym laws.broken-word ∙ laws.child-none _ _ _ _ _ _ _ c.requires.0
    above _ below
    _ c.enter-further.ensures _ c.child-child.ensures c.in_default.is

pub kept_step-overflow_add-down : goal.kept_step-overflow_add-down
kept_step-overflow_add-down t c = record { fits = omega (arith, c.requires.1, c.requires.0.on.facts.bounds.levels_high) }

pub kept_step-overflow_add-down-2 : goal.kept_step-overflow_add-down-2
kept_step-overflow_add-down-2 t c = record { fits = omega (arith, c.requires.1, c.requires.0.on.facts.bounds.levels_high) }

pub kept_step-packed-requires : goal.kept_step-packed-requires
kept_step-packed-requires t c =
    let x : Shapes c.args.t.now.now c.shape_of-shape.result = shapes _ _ c.shape_of-shape.ensures in
    let above : c.args.level + 1 ≡ levels c.args.t.now.now → ⊥ = λ last. omega (arith, c.requires.1) in
    let below : c.args.below ≡ c.args.b / (at.settings c.args.t.now.now).arity = c.requires.2 in
    let may = laws.child-may _ _ _ _ _ _ _ c.requires.0 above
    _ below
    _ c.enter-further.ensures _ c.child-child.ensures _ c.in-Some.is in
    let f = laws.last_fits _ _ _ _ _ _ c.enter-further.result may (c.if-down-shape.true ∙ x.levels_is)
    (rw x.offset_is at c.shape_of-shape.type_inv.1.1.1.1.1.0.1) in
    (f.0, f.1, f.2, laws.left-fits _ _ _ _ _ _ _ c.requires.0 _ c.enter-further.ensures)

pub kept_step-returns-then-down-shape : goal.kept_step-returns-then-down-shape
kept_step-returns-then-down-shape t c =
    let x : Shapes c.args.t.now.now c.shape_of-shape.result = shapes _ _ c.shape_of-shape.ensures in
    let above : c.args.level + 1 ≡ levels c.args.t.now.now → ⊥ = λ last. omega (arith, c.requires.1) in
    let below : c.args.below ≡ c.args.b / (at.settings c.args.t.now.now).arity = c.requires.2 in
    let may = laws.child-may _ _ _ _ _ _ _ c.requires.0 above
    _ below
    _ c.enter-further.ensures _ c.child-child.ensures _ c.in-Some.is in
    laws.child-by _ _ _ _ _ _ _ c.requires.0 above _ below _ c.enter-further.ensures _ c.child-child.ensures
    _ _ c.in-Some.is
    (laws.last-walked _ _ _ _ _ _ c.enter-further.result may (c.if-down-shape.true ∙ x.levels_is) _ c.packed.ensures)

pub kept_step-pointing_step-requires : goal.kept_step-pointing_step-requires
kept_step-pointing_step-requires t c =
    let x : Shapes c.args.t.now.now c.shape_of-shape.result = shapes _ _ c.shape_of-shape.ensures in
    let above : c.args.level + 1 ≡ levels c.args.t.now.now → ⊥ = λ last. omega (arith, c.requires.1) in
    let below : c.args.below ≡ c.args.b / (at.settings c.args.t.now.now).arity = c.requires.2 in
    let may = laws.child-may _ _ _ _ _ _ _ c.requires.0 above
    _ below
    _ c.enter-further.ensures _ c.child-child.ensures _ c.in-Some.is in (
      omega (arith, c.decreases, c.requires.1),
      (may, omega (arith, may.on.level_in, c.if-down-shape.false, x.levels_is)),
    )

pub kept_step-returns : goal.kept_step-returns
kept_step-returns t c =
    let above : c.args.level + 1 ≡ levels c.args.t.now.now → ⊥ = λ last. omega (arith, c.requires.1) in
    let below : c.args.below ≡ c.args.b / (at.settings c.args.t.now.now).arity = c.requires.2 in
    laws.child-by _ _ _ _ _ _ _ c.requires.0 above _ below _ c.enter-further.ensures _ c.child-child.ensures
    _ _ c.in-Some.is c.pointing_step.ensures

pub pointing_step-shape_of-shape-requires : goal.pointing_step-shape_of-shape-requires
pointing_step-shape_of-shape-requires t c = c.requires.0.on.facts.long

pub pointing_step-quotient-below-requires : goal.pointing_step-quotient-below-requires
pointing_step-quotient-below-requires t c = omega (arith, (shapes _ _ c.shape_of-shape.ensures).arity_is, c.requires.0.on.facts.bounds.arity_low)

pub pointing_step-to_kept-landing-requires : goal.pointing_step-to_kept-landing-requires
pointing_step-to_kept-landing-requires t c = c.requires

pub pointing_step-returns-in_default : goal.pointing_step-returns-in_default
pointing_step-returns-in_default t c =
    sym laws.broken-word ∙ laws.landed-off _ _ _ _ _ _ _ c.requires.0 c.requires.1 _ c.to_kept-landing.ensures c.in_default.is

pub pointing_step-kept_step-requires : goal.pointing_step-kept_step-requires
pointing_step-kept_step-requires t c = (
  omega (arith, c.decreases),
  (
    laws.landed-kept _ _ _ _ _ _ _ c.requires.0 c.requires.1 _ c.to_kept-landing.ensures _ _ c.in-Some.there.state c.in-Some.is,
    c.requires.1,
    c.quotient-below.ensures ∙ ap (λ (y : ℕ). c.args.b / y) (shapes _ _ c.shape_of-shape.ensures).arity_is,
  ),
)

pub pointing_step-returns : goal.pointing_step-returns
pointing_step-returns t c = laws.landed-by _ _ _ _ _ _ _ c.requires.0 c.requires.1 _ c.to_kept-landing.ensures _ _ c.in-Some.there.state c.in-Some.is
    _ c.kept_step.ensures
