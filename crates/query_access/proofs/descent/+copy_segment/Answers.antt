use mathlib.Core.Path.{refl, sym, ◌∙◌}
use Prim.Native.Nat.{◌+◌, ◌-◌}
use native.Mathlib.Omega.{arith}
use Rattle.refusals.specs.RefusalsLaws.{passed-on}
use Rattle.layout.proofs.ShapeLaws.{shapes}
use Rattle.walk_ranges.specs.Segments.{NextAt}
use Rattle.query_access.proofs.SegmentLaws as segments
use Rattle.query_access.proofs.descent.+copy_segment.Goals as goal

pub shape_of-shape-requires : goal.shape_of-shape-requires
shape_of-shape-requires t c = c.requires.0.facts.long

pub copy_leaves-requires : goal.copy_leaves-requires
copy_leaves-requires t c = let x = shapes _ _ c.shape_of-shape.ensures in
    (c.requires.0.facts, c.requires.0.near, (c.requires.0.some_leaf (omega (arith, c.if-on-shape.true, x.levels_is))).0, c.requires.2)

pub shape_of-buffer-then-on-shape : goal.shape_of-buffer-then-on-shape
shape_of-buffer-then-on-shape t c = c.copy_leaves.auto.buffer

pub returns-then-on-shape : goal.returns-then-on-shape
returns-then-on-shape t c = let x = shapes _ _ c.shape_of-shape.ensures in
    segments.leaves-segment _ _ _ _ _ _ _ _ _ _ (c.if-on-shape.true ∙ x.levels_is)
    (c.requires.0.some_leaf (omega (arith, c.if-on-shape.true, x.levels_is))).1 c.copy_leaves.ensures

pub loop-done-init : goal.loop-done-init
loop-done-init t c = (omega arith, refl, segments.go-start _ _ _ _ _ _ _)

pub overflow_add-place : goal.overflow_add-place
overflow_add-place t c = record { fits = omega (arith, c.requires.0.near, c.loop-done-test.true) }

pub overflow_sub-part : goal.overflow_sub-part
overflow_sub-part t c = omega (arith, c.loop-done-test.true)

pub next_segment-found-requires : goal.next_segment-found-requires
next_segment-found-requires t c = let x = shapes _ _ c.shape_of-shape.ensures in
    let low = segments.above _ _ c.requires.0.level_in (λ e. c.if-on-shape.false (e ∙ sym x.levels_is)) in (
      segments.rest_at _ _ _ _ _ _ _ c.requires.0 low _ c.loop-done-test.true,
      low,
      omega (arith, c.loop-done-test.true),
    )

pub shape_of-buffer-in_default : goal.shape_of-buffer-in_default
shape_of-buffer-in_default t c = c.loop-done.invariant.1

pub returns-in_default : goal.returns-in_default
returns-in_default t c = segments.go-off _ _ _ _ _ _ _ _ _ c.loop-done.invariant.2 _ c.loop-done-test.true
    (segments.next-none _ _ _ _ _ _ _ c.next_segment-found.ensures c.in_default.is)

pub overflow_add-piece : goal.overflow_add-piece
overflow_add-piece t c = record { fits = omega (arith, c.requires.1, c.loop-done-test.true) }

pub copy_segment-requires : goal.copy_segment-requires
copy_segment-requires t c =
    let next : NextAt c.args.t.now.now c.args.rules.pointers c.args.on.level c.args.from.block.0
    (c.args.from.place.0 + c.loop-done.done) (c.args.part.size - c.loop-done.done) c.in-Some.next.segment c.in-Some.next.size
    = segments.next-at _ _ _ _ _ _ _ c.next_segment-found.ensures _ c.in-Some.is in
    let s = next in (
      omega (arith, c.decreases, s.falls),
      (
        s.segment,
        omega (arith, c.requires.1, s.at_most, c.loop-done-test.true),
        omega (arith, c.requires.2, s.at_most, c.loop-done-test.true, c.loop-done.invariant.1),
      ),
    )

pub returns-in_err-copy_segment : goal.returns-in_err-copy_segment
returns-in_err-copy_segment t c =
    let next : NextAt c.args.t.now.now c.args.rules.pointers c.args.on.level c.args.from.block.0
    (c.args.from.place.0 + c.loop-done.done) (c.args.part.size - c.loop-done.done) c.in-Some.next.segment c.in-Some.next.size
    = segments.next-at _ _ _ _ _ _ _ c.next_segment-found.ensures _ c.in-Some.is in
    rw (passed-on _ _ c.from_residual.ensures.1) (segments.go-broken _ _ _ _ _ _ _ _ _ c.loop-done.invariant.2 _ _ _ next _ _
    (rw c.in_err-copy_segment.was at c.copy_segment.ensures)
    (segments.is-refusal _) _ (omega (arith, c.loop-done-test.true)))

pub overflow_add-done : goal.overflow_add-done
overflow_add-done t c =
    let next : NextAt c.args.t.now.now c.args.rules.pointers c.args.on.level c.args.from.block.0
    (c.args.from.place.0 + c.loop-done.done) (c.args.part.size - c.loop-done.done) c.in-Some.next.segment c.in-Some.next.size
    = segments.next-at _ _ _ _ _ _ _ c.next_segment-found.ensures _ c.in-Some.is in
    record { fits = omega (arith, c.requires.1, next.at_most, c.loop-done-test.true) }

pub loop-done-smaller : goal.loop-done-smaller
loop-done-smaller t c =
    let next : NextAt c.args.t.now.now c.args.rules.pointers c.args.on.level c.args.from.block.0
    (c.args.from.place.0 + c.loop-done.done) (c.args.part.size - c.loop-done.done) c.in-Some.next.segment c.in-Some.next.size
    = segments.next-at _ _ _ _ _ _ _ c.next_segment-found.ensures _ c.in-Some.is in
    omega (arith, next.some_byte, c.loop-done-test.true)

pub loop-done-preserved : goal.loop-done-preserved
loop-done-preserved t c =
    let next : NextAt c.args.t.now.now c.args.rules.pointers c.args.on.level c.args.from.block.0
    (c.args.from.place.0 + c.loop-done.done) (c.args.part.size - c.loop-done.done) c.in-Some.next.segment c.in-Some.next.size
    = segments.next-at _ _ _ _ _ _ _ c.next_segment-found.ensures _ c.in-Some.is in (
      omega (arith, next.at_most, c.loop-done-test.true),
      c.copy_segment.auto.buffer ∙ c.loop-done.invariant.1,
      segments.go-more _ _ _ _ _ _ _ _ _ c.loop-done.invariant.2 _ _ _ next _ _ (rw c.in_ok-copy_segment.was at c.copy_segment.ensures) refl,
    )

pub shape_of-buffer : goal.shape_of-buffer
shape_of-buffer t c = c.loop-done.invariant.1

pub returns : goal.returns
returns t c = segments.go-end _ _ _ _ _ _ _ _ _ c.loop-done.invariant.2 _ (omega (arith, c.loop-done.invariant.0))
