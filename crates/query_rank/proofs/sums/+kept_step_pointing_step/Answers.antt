use mathlib.Core.List.{List}
use mathlib.Core.Path.{◌≡◌, sym, ap, ◌∙◌}
use Prim.Native.Nat.{ℕ, ◌+◌, ◌/◌}
use native.Mathlib.Omega.{arith}
use Rattle.format.specs.Layout as at
use Rattle.layout.proofs.ShapeLaws.{Shapes, shapes}
use Rattle.walk_path.proofs.WalkLaws as walk
use Rattle.query_rank.proofs.SumsLaws as laws
use Rattle.query_rank.proofs.sums.+kept_step_pointing_step.Goals as goal

abbrev levels : List ℕ → ℕ
levels t = (at.settings t).levels

pub kept_step-shape_of-shape-requires : goal.kept_step-shape_of-shape-requires
kept_step-shape_of-shape-requires t c = c.requires.0.on.facts.long

pub kept_step-overflow_add-under : goal.kept_step-overflow_add-under
kept_step-overflow_add-under t c = record { fits = omega (arith, c.requires.0.on.level_in, c.requires.0.on.facts.bounds.levels_high) }

pub kept_step-leaf-requires : goal.kept_step-leaf-requires
kept_step-leaf-requires t c = c.requires

pub kept_step-returns-then-under-shape : goal.kept_step-returns-then-under-shape
kept_step-returns-then-under-shape t c = laws.by_last _ _ _ _ _ _ _ _ _ _ c.requires.0
    (c.if-under-shape.true ∙ (shapes _ _ c.shape_of-shape.ensures).levels_is) c.leaf.ensures

pub kept_step-quotient-below-requires : goal.kept_step-quotient-below-requires
kept_step-quotient-below-requires t c = omega (arith, (shapes _ _ c.shape_of-shape.ensures).arity_is, c.requires.0.on.facts.bounds.arity_low)

pub kept_step-child-child-requires : goal.kept_step-child-child-requires
kept_step-child-child-requires t c =
    let x : Shapes c.args.t.now.now c.shape_of-shape.result = shapes _ _ c.shape_of-shape.ensures in
    let above : c.args.level + 1 ≡ levels c.args.t.now.now → ⊥ = λ last. c.if-under-shape.false (last ∙ sym x.levels_is) in
    let below : (q : ℕ) → q ≡ c.args.b / c.shape_of-shape.result.arity → q ≡ c.args.b / (at.settings c.args.t.now.now).arity =
    λ q q-is. q-is ∙ ap (λ (y : ℕ). c.args.b / y) x.arity_is in
    walk.asks-child _ _ _ _ _ _ _ c.requires.0 above _ (below _ c.quotient-below.ensures)

pub kept_step-returns-in_default : goal.kept_step-returns-in_default
kept_step-returns-in_default t c =
    let x : Shapes c.args.t.now.now c.shape_of-shape.result = shapes _ _ c.shape_of-shape.ensures in
    let above : c.args.level + 1 ≡ levels c.args.t.now.now → ⊥ = λ last. c.if-under-shape.false (last ∙ sym x.levels_is) in
    let below : (q : ℕ) → q ≡ c.args.b / c.shape_of-shape.result.arity → q ≡ c.args.b / (at.settings c.args.t.now.now).arity =
    λ q q-is. q-is ∙ ap (λ (y : ℕ). c.args.b / y) x.arity_is in
    laws.by-off _ _ _ _ _ _ _ c.requires.0 above _ (below _ c.quotient-below.ensures) _
    c.child-child.ensures _ _ c.in_default.is

pub kept_step-down-further-requires : goal.kept_step-down-further-requires
kept_step-down-further-requires t c =
    let x : Shapes c.args.t.now.now c.shape_of-shape.result = shapes _ _ c.shape_of-shape.ensures in
    let above : c.args.level + 1 ≡ levels c.args.t.now.now → ⊥ = λ last. c.if-under-shape.false (last ∙ sym x.levels_is) in
    let below : (q : ℕ) → q ≡ c.args.b / c.shape_of-shape.result.arity → q ≡ c.args.b / (at.settings c.args.t.now.now).arity =
    λ q q-is. q-is ∙ ap (λ (y : ℕ). c.args.b / y) x.arity_is in
    (laws.down-asks _ _ _ _ _ _ _ c.requires.0
    above _ (below _ c.quotient-below.ensures)
    _ c.child-child.ensures _ _ c.in-Some.is c.requires.1)

pub kept_step-pointing_step-requires : goal.kept_step-pointing_step-requires
kept_step-pointing_step-requires t c =
    let x : Shapes c.args.t.now.now c.shape_of-shape.result = shapes _ _ c.shape_of-shape.ensures in
    let above : c.args.level + 1 ≡ levels c.args.t.now.now → ⊥ = λ last. c.if-under-shape.false (last ∙ sym x.levels_is) in
    let below : (q : ℕ) → q ≡ c.args.b / c.shape_of-shape.result.arity → q ≡ c.args.b / (at.settings c.args.t.now.now).arity =
    λ q q-is. q-is ∙ ap (λ (y : ℕ). c.args.b / y) x.arity_is in (
      omega (arith, c.decreases, c.requires.0.on.level_in, x.levels_is, c.if-under-shape.false),
      (laws.to-child _ _ _ _ _ _ _ c.requires.0
          above _ (below _ c.quotient-below.ensures)
          _ c.child-child.ensures _ _ c.in-Some.is _ c.down-further.ensures.value c.down-further.ensures.carried),
    )

pub kept_step-returns : goal.kept_step-returns
kept_step-returns t c =
    let x : Shapes c.args.t.now.now c.shape_of-shape.result = shapes _ _ c.shape_of-shape.ensures in
    let above : c.args.level + 1 ≡ levels c.args.t.now.now → ⊥ = λ last. c.if-under-shape.false (last ∙ sym x.levels_is) in
    let below : (q : ℕ) → q ≡ c.args.b / c.shape_of-shape.result.arity → q ≡ c.args.b / (at.settings c.args.t.now.now).arity =
    λ q q-is. q-is ∙ ap (λ (y : ℕ). c.args.b / y) x.arity_is in
    laws.by-child _ _ _ _ _ _ _ c.requires.0 above
    _ (below _ c.quotient-below.ensures) _ c.child-child.ensures
    _ _ c.in-Some.is _ c.down-further.ensures.value _ _ c.pointing_step.ensures

pub pointing_step-to_kept-landing-requires : goal.pointing_step-to_kept-landing-requires
pointing_step-to_kept-landing-requires t c = c.requires

pub pointing_step-returns-in_default : goal.pointing_step-returns-in_default
pointing_step-returns-in_default t c = laws.landed_none _ _ _ _ _ _ _ _ _ _ c.to_kept-landing.ensures c.in_default.is

pub pointing_step-kept_step-requires : goal.pointing_step-kept_step-requires
pointing_step-kept_step-requires t c = let z = laws.landed-on _ _ _ _ _ _ _ _ _ _ c.to_kept-landing.ensures _ c.in-Some.is in (
  omega (arith, c.decreases),
  (z.0, z.1),
)

pub pointing_step-returns : goal.pointing_step-returns
pointing_step-returns t c = c.kept_step.ensures ∙ (laws.landed-on _ _ _ _ _ _ _ _ _ _ c.to_kept-landing.ensures _ c.in-Some.is).2
