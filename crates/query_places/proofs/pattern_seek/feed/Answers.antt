use mathlib.Core.Path.{refl, ◌∙◌}
use native.Mathlib.Omega.{arith}
use Rattle.query_places.proofs.PatternSeekLaws as laws
use Rattle.query_places.proofs.pattern_seek.feed.Goals as goal

pub loop-i-init : goal.loop-i-init
loop-i-init c =
    (omega arith, omega arith, refl, c.requires.reads_on.2, λ before s. s)

pub overflow_add-from : goal.overflow_add-from
overflow_add-from c =
    omega (arith, c.requires.reads_on.0.in_tree)

pub overflow_sub-size : goal.overflow_sub-size
overflow_sub-size c = omega arith

pub read_matching-at-requires : goal.read_matching-at-requires
read_matching-at-requires c =
    (laws.reads-from _ _ _ _ _ _ c.requires.reads_on.0 c.loop-i.invariant.0 c.loop-i.invariant.1, omega (arith, c.loop-i.invariant.1, c.requires.reads_on.1), c.loop-i.invariant.3, c.requires.in_bounds.0, c.requires.in_bounds.1)

pub overflow_sub-i : goal.overflow_sub-i
overflow_sub-i c = omega (arith, c.read_matching-at.ensures.least, c.loop-i.invariant.1)

pub shape_of-table-then-size-i : goal.shape_of-table-then-size-i
shape_of-table-then-size-i c = c.loop-i.invariant.2

pub returns-then-size-i : goal.returns-then-size-i
returns-then-size-i c =
    (omega (arith, c.loop-i.invariant.1, c.read_matching-at.ensures.most, c.read_matching-at.ensures.least, c.if-size-i.true), λ before s. c.read_matching-at.ensures.on _ before _ (c.loop-i.invariant.4 before s))

pub overflow_add-from-in-loop-i : goal.overflow_add-from-in-loop-i
overflow_add-from-in-loop-i c =
    omega (arith, c.requires.reads_on.0.in_tree)

pub bounds-t-from : goal.bounds-t-from
bounds-t-from c =
    omega (arith, c.requires.reads_on.0.in_tree)

pub step-at-requires : goal.step-at-requires
step-at-requires c = record { even = (c.read_matching-at.ensures.even, omega (arith, c.loop-i.invariant.1, c.read_matching-at.ensures.most, c.requires.reads_on.1, c.if-size-i.false), omega (arith, c.loop-i.invariant.2, c.requires.reads_on.3)); pattern_in_bounds = (c.requires.in_bounds.2, c.requires.in_bounds.3) }

pub overflow_add-i : goal.overflow_add-i
overflow_add-i c = omega arith

pub loop-i-smaller : goal.loop-i-smaller
loop-i-smaller c =
    omega (arith, c.read_matching-at.ensures.least, c.loop-i.invariant.1)

pub loop-i-preserved : goal.loop-i-preserved
loop-i-preserved c = (
  omega (arith, c.if-size-i.false),
  omega (arith, c.step-at.ensures.place_is, c.read_matching-at.ensures.least, c.loop-i.invariant.1),
  c.step-at.auto.table ∙ c.loop-i.invariant.2,
  c.step-at.ensures.even,
  λ before z. laws.seeking-byte _ _ _ _ _ _ (c.read_matching-at.ensures.on _ before _ (c.loop-i.invariant.4 before z)) c.args.run.before _ _ _ _ _ _
      c.requires.reads_on.0 c.if-size-i.false (omega (arith, c.read_matching-at.ensures.least, c.loop-i.invariant.1)) refl c.step-at.ensures,
)

pub shape_of-table : goal.shape_of-table
shape_of-table c = c.loop-i.invariant.2

pub returns : goal.returns
returns c =
    (omega (arith, c.loop-i.invariant.1), c.loop-i.invariant.4)
