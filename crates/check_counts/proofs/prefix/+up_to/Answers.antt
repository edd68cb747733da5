use mathlib.Core.List.{List}
use mathlib.Core.Path.{◌≡◌, sym, ◌∙◌}
use Prim.Native.Nat.{ℕ, ◌+◌, ◌<◌}
use native.Mathlib.Omega.{arith}
use Rattle.format.specs.Layout as at
use Rattle.check_counts.proofs.CountsHeader as facts
use Rattle.check_counts.proofs.PrefixLaws as laws
use Rattle.layout.proofs.ShapeLaws.{Shapes, shapes}
use Rattle.check_counts.proofs.prefix.+up_to.Goals as goal

abbrev levels : List ℕ → ℕ
levels t = (at.settings t).levels

pub shape_of-shape-requires : goal.shape_of-shape-requires
shape_of-shape-requires t c = c.requires.2.block.table.tree.facts.long

pub overflow_add-down : goal.overflow_add-down
overflow_add-down t c = omega (arith, c.requires.2.block.table.level_in, c.requires.2.block.table.tree.facts.bounds.levels_high)

pub quotient-below-requires : goal.quotient-below-requires
quotient-below-requires t c = omega (arith, (shapes _ _ c.shape_of-shape.ensures).arity_is, c.requires.2.block.table.tree.facts.bounds.arity_low)

pub child_of-child-requires : goal.child_of-child-requires
child_of-child-requires t c =
    let x : Shapes c.args.t.now.now c.shape_of-shape.result = shapes _ _ c.shape_of-shape.ensures in
    let below : c.quotient-below.result ≡ at.full_length c.args.t.now.now (c.args.on.level + 1) = c.quotient-below.ensures ∙ laws.below_is _ _ _ _ _ _ _ c.requires.0 c.requires.2 c.requires.1 _ x.arity_is in
    (below, c.requires.1, laws.kept-place _ _ _ _ _ _ _ c.requires.0 c.requires.2 c.requires.1)

pub overflow_add-down-2 : goal.overflow_add-down-2
overflow_add-down-2 t c = omega (arith, c.requires.2.block.table.level_in, c.requires.2.block.table.tree.facts.bounds.levels_high)

pub in_last-requires : goal.in_last-requires
in_last-requires t c =
    let x : Shapes c.args.t.now.now c.shape_of-shape.result = shapes _ _ c.shape_of-shape.ensures in (
      c.if-down-shape.true ∙ x.levels_is,
      laws.child-there _ _ _ _ _ _ _ c.requires.0 c.requires.2 c.requires.1 _ c.child_of-child.ensures,
    )

pub returns-then-down-shape : goal.returns-then-down-shape
returns-then-down-shape t c =
    let x : Shapes c.args.t.now.now c.shape_of-shape.result = shapes _ _ c.shape_of-shape.ensures in
    laws.walk-last _ _ _ _ _ _ _ c.requires.0 c.requires.2 c.requires.1 _ c.child_of-child.ensures
    (c.if-down-shape.true ∙ x.levels_is) _ (c.in_last.ensures)

pub step-holder-requires : goal.step-holder-requires
step-holder-requires t c =
    let x : Shapes c.args.t.now.now c.shape_of-shape.result = shapes _ _ c.shape_of-shape.ensures in
    let below : c.quotient-below.result ≡ at.full_length c.args.t.now.now (c.args.on.level + 1) = c.quotient-below.ensures ∙ laws.below_is _ _ _ _ _ _ _ c.requires.0 c.requires.2 c.requires.1 _ x.arity_is in
    (below, laws.child-there _ _ _ _ _ _ _ c.requires.0 c.requires.2 c.requires.1 _ c.child_of-child.ensures)

pub up_to-rest-requires : goal.up_to-rest-requires
up_to-rest-requires t c =
    let x : Shapes c.args.t.now.now c.shape_of-shape.result = shapes _ _ c.shape_of-shape.ensures in
    let below : c.quotient-below.result ≡ at.full_length c.args.t.now.now (c.args.on.level + 1) = c.quotient-below.ensures ∙ laws.below_is _ _ _ _ _ _ _ c.requires.0 c.requires.2 c.requires.1 _ x.arity_is in
    let up : c.args.on.level + 1 + 1 < levels c.args.t.now.now = facts.not_last _ _ c.requires.2.block.table.tree _ c.requires.1 (λ last. c.if-down-shape.false (last ∙ sym x.levels_is)) in (
      omega (arith, c.decreases, c.requires.1),
      (
        below,
        up,
        laws.walk-next _ _ _ _ _ _ _ c.requires.0 c.requires.2 c.requires.1 _ c.child_of-child.ensures _ (c.step-holder.ensures.0),
      ),
    )

pub overflow_add-result : goal.overflow_add-result
overflow_add-result t c = omega (
  arith,
  c.step-holder.ensures.1,
  laws.rest-small _ _ _ _ _ _ _ c.requires.0 c.requires.2 c.requires.1 _ c.child_of-child.ensures _ (c.step-holder.ensures.0)
      _ (c.up_to-rest.ensures),
)

pub overflow_sub-result : goal.overflow_sub-result
overflow_sub-result t c = laws.minus-low _ _ _ _ _ _ _ c.requires.0 c.requires.2 c.requires.1 _ c.child_of-child.ensures _ (c.step-holder.ensures.0)
    _ (c.up_to-rest.ensures)

pub returns : goal.returns
returns t c = laws.walk_is _ _ _ _ _ _ _ c.requires.0 c.requires.2 c.requires.1 _ c.child_of-child.ensures _ (c.step-holder.ensures.0)
    _ (c.up_to-rest.ensures)
