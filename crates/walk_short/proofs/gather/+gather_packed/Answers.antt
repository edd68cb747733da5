use mathlib.Core.List.{List}
use mathlib.Core.Path.{◌≡◌, refl, sym, ◌∙◌}
use Prim.Native.Nat.{ℕ, ◌+◌, ◌-◌, ◌*◌, ◌≤◌}
use native.Mathlib.Omega.{arith}
use Rattle.layout.proofs.ShapeLaws.{Shapes, shapes}
use Rattle.format.specs.Layout.{max_levels}
use Rattle.format.specs.Layout as at
use Rattle.walk_short.proofs.PackedLaws.{unpacked-none}
use Rattle.walk_short.proofs.WholeLaws as laws
use Rattle.walk_short.proofs.gather.+gather_packed.Goals as goal

abbrev levels : List ℕ → ℕ
levels t = (at.settings t).levels

pub overflow_add-place : goal.overflow_add-place
overflow_add-place t c = omega (arith, laws.sum-few _ _ _ _ 0 _ _ _ c.requires)

pub over-requires : goal.over-requires
over-requires t c = (laws.over-asks _ _ _ _ 0 _ _ _ c.requires c.if-b-place.true)

pub returns-then-b-place : goal.returns-then-b-place
returns-then-b-place t c = laws.over_by _ _ _ _ _ _ _ _ c.requires c.if-b-place.true _ (c.over.ensures)

pub shape_of-shape-requires : goal.shape_of-shape-requires
shape_of-shape-requires t c = c.requires.on.facts.long

pub overflow_add-down : goal.overflow_add-down
overflow_add-down t c = omega (arith, c.requires.on.level_in, c.requires.on.facts.bounds.levels_high)

pub last-requires : goal.last-requires
last-requires t c = (
  c.requires.on,
  (let z : c.args.entered ≤ 2 * max_levels = omega (arith, laws.entered-few _ _ _ _ 0 _ _ _ c.requires) in z),
  omega (arith, c.requires.short, c.requires.on.facts.bounds.leaf_high),
)

pub returns-then-down-shape : goal.returns-then-down-shape
returns-then-down-shape t c = laws.last-by _ _ _ _ _ _ _ _ c.requires c.if-b-place.false
    (c.if-down-shape.true ∙ (shapes _ _ c.shape_of-shape.ensures).levels_is) _ (c.last.ensures)

pub quotient-c-requires : goal.quotient-c-requires
quotient-c-requires t c = omega (arith, (shapes _ _ c.shape_of-shape.ensures).arity_is, c.requires.on.facts.bounds.arity_low)

pub settle-step-requires : goal.settle-step-requires
settle-step-requires t c =
    let x : Shapes c.args.t.now.now c.shape_of-shape.result = shapes _ _ c.shape_of-shape.ensures in
    let more : c.args.level + 1 ≡ levels c.args.t.now.now → ⊥ = λ last. c.if-down-shape.false (last ∙ sym x.levels_is) in (
      c.requires.on,
      c.requires.place-in,
      c.if-b-place.false,
      laws.c_is _ _ _ _ 0 _ _ _ c.requires c.if-b-place.false more _ _ c.quotient-c.ensures x.arity_is,
    )

pub overflow_add-entered : goal.overflow_add-entered
overflow_add-entered t c =
    let x : Shapes c.args.t.now.now c.shape_of-shape.result = shapes _ _ c.shape_of-shape.ensures in
    let more : c.args.level + 1 ≡ levels c.args.t.now.now → ⊥ = λ last. c.if-down-shape.false (last ∙ sym x.levels_is) in
    omega (
      arith,
      laws.entered-few _ _ _ _ 0 _ _ _ c.requires,
      laws.down-few _ _ _ _ _ _ _ _ c.requires c.if-b-place.false more _ (c.settle-step.ensures) _ _ _ _
          c.in-Down.is,
    )

pub gather_packed-requires : goal.gather_packed-requires
gather_packed-requires t c =
    let x : Shapes c.args.t.now.now c.shape_of-shape.result = shapes _ _ c.shape_of-shape.ensures in
    let more : c.args.level + 1 ≡ levels c.args.t.now.now → ⊥ = λ last. c.if-down-shape.false (last ∙ sym x.levels_is) in (
      omega (arith, c.decreases, c.requires.on.level_in, c.if-down-shape.false, x.levels_is),
      (laws.down-asks _ _ _ _ _ _ _ _ c.requires c.if-b-place.false more _
          (c.settle-step.ensures)
          _ _ _ _ c.in-Down.is _
          (laws.c_is _ _ _ _ 0 _ _ _ c.requires c.if-b-place.false more _ _ c.quotient-c.ensures x.arity_is)),
    )

pub overflow_add-entered-in-Over : goal.overflow_add-entered-in-Over
overflow_add-entered-in-Over t c = omega (arith, laws.entered-few _ _ _ _ 0 _ _ _ c.requires)

pub over-requires-in-Over : goal.over-requires-in-Over
over-requires-in-Over t c =
    let x : Shapes c.args.t.now.now c.shape_of-shape.result = shapes _ _ c.shape_of-shape.ensures in
    let more : c.args.level + 1 ≡ levels c.args.t.now.now → ⊥ = λ last. c.if-down-shape.false (last ∙ sym x.levels_is) in
    (laws.between-asks _ _ _ _ _ _ _ _ c.requires c.if-b-place.false more _
    (c.settle-step.ensures)
    _ _ c.in-Over.is)

pub returns-in-Down : goal.returns-in-Down
returns-in-Down t c =
    let x : Shapes c.args.t.now.now c.shape_of-shape.result = shapes _ _ c.shape_of-shape.ensures in
    let more : c.args.level + 1 ≡ levels c.args.t.now.now → ⊥ = λ last. c.if-down-shape.false (last ∙ sym x.levels_is) in
    laws.down_by _ _ _ _ _ _ _ _ c.requires c.if-b-place.false more _ (c.settle-step.ensures)
    _ _ _ _ c.in-Down.is _ (c.gather_packed.ensures)

pub returns-in-Over : goal.returns-in-Over
returns-in-Over t c =
    let x : Shapes c.args.t.now.now c.shape_of-shape.result = shapes _ _ c.shape_of-shape.ensures in
    let more : c.args.level + 1 ≡ levels c.args.t.now.now → ⊥ = λ last. c.if-down-shape.false (last ∙ sym x.levels_is) in
    laws.between-by _ _ _ _ _ _ _ _ c.requires c.if-b-place.false more _ (c.settle-step.ensures)
    _ _ c.in-Over.is _ (c.over-in-Over.ensures)

pub returns-in-Off : goal.returns-in-Off
returns-in-Off t c =
    let x : Shapes c.args.t.now.now c.shape_of-shape.result = shapes _ _ c.shape_of-shape.ensures in
    let more : c.args.level + 1 ≡ levels c.args.t.now.now → ⊥ = λ last. c.if-down-shape.false (last ∙ sym x.levels_is) in
    unpacked-none _ _ refl ∙ laws.off-by _ _ _ _ _ _ _ _ c.requires c.if-b-place.false more _ (c.settle-step.ensures) c.in-Off.is
