use native.Mathlib.Omega.{arith}
use Rattle.search.proofs.Modulo.{product-fits, top-fits}
use Rattle.search.proofs.karp_rabin.roll.Goals as goal

pub overflow_mul-result : goal.overflow_mul-result
overflow_mul-result c = omega (arith, product-fits _ _ _ c.requires.1 c.requires.0.below c.requires.0.most)

pub overflow_add-result : goal.overflow_add-result
overflow_add-result c = omega (arith, product-fits _ _ _ c.requires.1 c.requires.0.below c.requires.0.most)

pub overflow_mul-result-3 : goal.overflow_mul-result-3
overflow_mul-result-3 c = omega (arith, top-fits _ _ _ c.requires.2 c.ranges.leaves.fits)

pub overflow_sub-result : goal.overflow_sub-result
overflow_sub-result c = top-fits _ _ _ c.requires.2 c.ranges.leaves.fits

pub overflow_add-result-2 : goal.overflow_add-result-2
overflow_add-result-2 c = omega (arith, product-fits _ _ _ c.requires.1 c.requires.0.below c.requires.0.most)
