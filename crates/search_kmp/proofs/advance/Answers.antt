use mathlib.Core.Path.{sym, ◌∙◌}
use native.Mathlib.Omega.{arith}
use Rattle.search_kmp.proofs.BorderLaws as laws
use Rattle.search_kmp.proofs.advance.Goals as goal

pub loop-k-init : goal.loop-k-init
loop-k-init c = laws.back_start _ _ _

pub overflow_add-result : goal.overflow_add-result
overflow_add-result c = omega (arith, c.requires.0, c.loop-k.invariant.low)

pub returns-then-fits : goal.returns-then-fits
returns-then-fits c = let z = laws.next_more _ _ _ _ c.loop-k.invariant (sym c.fits.ensures ∙ c.if-fits.true) in
    (z.0, omega (arith, c.loop-k.invariant.low), z.1)

pub bounds-borders-k : goal.bounds-borders-k
bounds-borders-k c = omega (arith, c.requires.0, c.requires.1, c.loop-k.invariant.low)

pub loop-k-smaller : goal.loop-k-smaller
loop-k-smaller c = (laws.back-border _ _ _ _ c.loop-k.invariant _ c.requires.2 c.loop-k-test.true
    (sym c.fits.ensures ∙ c.if-fits.false) _ c.wide-k.ensures.0).1

pub loop-k-preserved : goal.loop-k-preserved
loop-k-preserved c = (laws.back-border _ _ _ _ c.loop-k.invariant _ c.requires.2 c.loop-k-test.true
    (sym c.fits.ensures ∙ c.if-fits.false) _ c.wide-k.ensures.0).0

pub returns-then-fits-2 : goal.returns-then-fits-2
returns-then-fits-2 c = let z = laws.first_more
    _ _ _ _ c.loop-k.invariant c.loop-k-test.false (sym c.fits-2.ensures ∙ c.if-fits-2.true) in
    (z.0, omega arith, z.1)

pub returns : goal.returns
returns c = (
  omega arith,
  omega arith,
  laws.first-none
      _ _ _ _ c.loop-k.invariant c.loop-k-test.false (sym c.fits-2.ensures ∙ c.if-fits-2.false),
)
