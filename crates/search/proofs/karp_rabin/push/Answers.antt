use native.Mathlib.Omega.{arith}
use Rattle.search.proofs.Modulo.{product-fits}
use Rattle.search.proofs.karp_rabin.push.Goals as goal

pub overflow_mul-result : goal.overflow_mul-result
overflow_mul-result c = omega (arith, product-fits _ _ _ c.requires.1 c.requires.0.below c.requires.0.most)

pub overflow_add-result : goal.overflow_add-result
overflow_add-result c = omega (arith, product-fits _ _ _ c.requires.1 c.requires.0.below c.requires.0.most)
