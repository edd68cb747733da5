use Rattle.std.proofs.Common.{ℕ, ◌%◌, sym, ap, arith, mod-lt}
use native.Mathlib.Nat.{pow-zero}
use Rattle.search.proofs.Modulo.{product-fits, power-more}
use Rattle.search.proofs.karp_rabin.power.Goals as goal

pub loop-init : goal.loop-init
loop-init c = (mod-lt 1 (omega arith), ap (λ (x : ℕ). x % c.args.by.modulus) (sym (pow-zero _)))

pub overflow_mul-w : goal.overflow_mul-w
overflow_mul-w c = omega (arith, product-fits _ _ _ c.loop.invariant.0 c.requires.below c.requires.most)

pub loop-preserved : goal.loop-preserved
loop-preserved c = (mod-lt _ (omega arith), power-more _ _ _ _ c.loop.invariant.1)
