use Prim.Native.Nat.{◌+◌}
use native.Mathlib.Omega.{arith}
use mathlib.Core.Path.{sym, ◌∙◌}
use Rattle.layout.proofs.ShapeLaws.{shapes}
use Rattle.check_counts.proofs.BlockCountsLaws as laws
use Rattle.check_counts.proofs.CountsHeader as facts
use Rattle.check_counts.proofs.block_counts.kept_inside.Goals as goal

pub shape_of-shape-requires : goal.shape_of-shape-requires
shape_of-shape-requires c = c.requires.2.tree.facts.long

pub block_length-length-requires : goal.block_length-length-requires
block_length-length-requires c = facts.stands _ _ _ _ _ c.requires.2 _ c.requires.0

pub overflow_add-down : goal.overflow_add-down
overflow_add-down c = omega (arith, c.requires.2.level_in, c.requires.2.tree.facts.bounds.levels_high)

pub in_leaves-requires : goal.in_leaves-requires
in_leaves-requires c = (c.requires.2, c.if-down-shape.true ∙ (shapes _ _ c.shape_of-shape.ensures).levels_is, omega (arith, c.block_length-length.ensures.0))

pub returns-then-down-shape : goal.returns-then-down-shape
returns-then-down-shape c = laws.inside-last _ _ _ _ _ c.requires.2 _ _ c.block_length-length.ensures.0
    (c.if-down-shape.true ∙ (shapes _ _ c.shape_of-shape.ensures).levels_is) c.in_leaves.ensures.0

pub link-link-requires : goal.link-link-requires
link-link-requires c = facts.plain-there _ _ _ _ _ c.requires.2 2 (omega arith)

pub overflow_sub-last : goal.overflow_sub-last
overflow_sub-last c = laws.length-pos _ _ _ _ _ c.requires.2 _ c.block_length-length.ensures.0

pub nonzero_div-last : goal.nonzero_div-last
nonzero_div-last c = let z = shapes _ _ c.shape_of-shape.ensures in
    let up = facts.not_last _ _ c.requires.2.tree _ c.requires.2.level_in (λ x. c.if-down-shape.false (x ∙ sym z.levels_is)) in
    laws.below-pos _ _ _ _ _ c.requires.2 c.requires.3 up _ _ _ (facts.child-below-is _ _ c.requires.2.tree _ _ c.requires.1 up)
    c.block_length-length.ensures.0 c.link-link.ensures

pub overflow_add-last : goal.overflow_add-last
overflow_add-last c = let z = shapes _ _ c.shape_of-shape.ensures in
    let up = facts.not_last _ _ c.requires.2.tree _ c.requires.2.level_in (λ x. c.if-down-shape.false (x ∙ sym z.levels_is)) in
    omega (
      arith,
      facts.count-lt c.args.t.now (c.args.level + 1) (λ k. (c.shared_slice_known-1.given k).fits),
      (laws.last-there _ _ _ _ _ c.requires.2 c.requires.3 up _ _ _ (facts.child-below-is _ _ c.requires.2.tree _ _ c.requires.1 up)
          c.block_length-length.ensures.0 c.link-link.ensures).block_in,
    )

pub before-to_last-requires : goal.before-to_last-requires
before-to_last-requires c = let z = shapes _ _ c.shape_of-shape.ensures in
    let up = facts.not_last _ _ c.requires.2.tree _ c.requires.2.level_in (λ x. c.if-down-shape.false (x ∙ sym z.levels_is)) in
    facts.before-there _ _ _ _ _ (laws.last-there _ _ _ _ _ c.requires.2 c.requires.3 up _ _ _ (facts.child-below-is _ _ c.requires.2.tree _ _ c.requires.1 up)
    c.block_length-length.ensures.0 c.link-link.ensures)

pub inside-in_last-requires : goal.inside-in_last-requires
inside-in_last-requires c = let z = shapes _ _ c.shape_of-shape.ensures in
    let up = facts.not_last _ _ c.requires.2.tree _ c.requires.2.level_in (λ x. c.if-down-shape.false (x ∙ sym z.levels_is)) in
    facts.inside-there _ _ _ _ _ (laws.last-there _ _ _ _ _ c.requires.2 c.requires.3 up _ _ _ (facts.child-below-is _ _ c.requires.2.tree _ _ c.requires.1 up)
    c.block_length-length.ensures.0 c.link-link.ensures)

pub returns : goal.returns
returns c = let z = shapes _ _ c.shape_of-shape.ensures in
    let up = facts.not_last _ _ c.requires.2.tree _ c.requires.2.level_in (λ x. c.if-down-shape.false (x ∙ sym z.levels_is)) in
    laws.inside-above _ _ _ _ _ c.requires.2 c.requires.3 up _ _ _ (facts.child-below-is _ _ c.requires.2.tree _ _ c.requires.1 up)
    c.block_length-length.ensures.0 c.link-link.ensures _ _ c.before-to_last.ensures c.inside-in_last.ensures
