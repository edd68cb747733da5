use mathlib.Core.Path.{refl, ap}
use Prim.Native.Nat.{ℕ, ◌+◌}
use native.Mathlib.Omega.{arith}
use Rattle.layout.proofs.ShapeLaws.{shapes}
use Rattle.query_access.proofs.SegmentLaws as segments
use Rattle.query_access.proofs.descent.copy_leaves.Goals as goal

pub returns-then-shape-leaf : goal.returns-then-shape-leaf
returns-then-shape-leaf c = let x = shapes _ _ c.shape_of-shape.ensures in
    segments.leaves-missing _ _ _ _ _ _ _ _ c.requires.2 refl x.count_is c.if-shape-leaf.true

pub copy_range-requires : goal.copy_range-requires
copy_range-requires c = let x = shapes _ _ c.shape_of-shape.ensures in
    (omega (arith, c.if-shape-leaf.false, x.count_is, x.offset_is, c.requires.0.size), c.requires.3)

pub returns : goal.returns
returns c = let x = shapes _ _ c.shape_of-shape.ensures in
    segments.leaves-copied _ _ _ _ _ _ _ _ _ _ refl x.count_is c.if-shape-leaf.false
    (ap (λ (y : ℕ). y + (c.args.from.block.0 + c.args.from.place.0)) x.offset_is) c.copy_range.ensures.buffer_after
