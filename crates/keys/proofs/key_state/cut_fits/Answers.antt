use native.Mathlib.Omega.{arith}
use Rattle.keys.proofs.FormLaws.{fits_low, fits-high, fits_both}
use Rattle.keys.proofs.key_state.cut_fits.Goals as goal

pub overflow_mul-at : goal.overflow_mul-at
overflow_mul-at c = omega (arith, c.requires)

pub bounds-ranges-at : goal.bounds-ranges-at
bounds-ranges-at c = omega (arith, c.requires)

pub overflow_add-wide : goal.overflow_add-wide
overflow_add-wide c = omega (arith, c.wide.ensures.1)

pub returns-then-depth-wide : goal.returns-then-depth-wide
returns-then-depth-wide c = fits_low _ _ _ _ _ c.wide.ensures.0 c.wide-depth.ensures.0 c.if-depth-wide.true

pub overflow_mul-at-2 : goal.overflow_mul-at-2
overflow_mul-at-2 c = omega (arith, c.requires)

pub overflow_add-at : goal.overflow_add-at
overflow_add-at c = omega (arith, c.requires)

pub bounds-ranges-at-2 : goal.bounds-ranges-at-2
bounds-ranges-at-2 c = omega (arith, c.requires)

pub overflow_add-wide-2 : goal.overflow_add-wide-2
overflow_add-wide-2 c = omega (arith, c.wide-2.ensures.1)

pub returns-then-wide-depth : goal.returns-then-wide-depth
returns-then-wide-depth c = fits-high _ _ _ _ _ _ c.wide.ensures.0 c.wide-2.ensures.0 c.wide-depth.ensures.0 c.if-depth-wide.false c.if-wide-depth.true

pub returns : goal.returns
returns c = fits_both _ _ _ _ _ _ c.wide.ensures.0 c.wide-2.ensures.0 c.wide-depth.ensures.0 c.if-depth-wide.false c.if-wide-depth.false
