use native.Mathlib.Omega.{arith}
use mathlib.Core.Path.{◌∙◌}
use Rattle.scan_rolling_hash.proofs.WindowFingerprintLaws.{first_fits, byte_fits, fold_is, fold-most, fold-again}
use Rattle.scan_rolling_hash.proofs.push_four.Goals as goal

pub overflow_mul-sum : goal.overflow_mul-sum
overflow_mul-sum c = omega (arith, first_fits _ _ _ c.requires.4 c.requires.0 c.ranges.a.fits)

pub overflow_mul-sum-2 : goal.overflow_mul-sum-2
overflow_mul-sum-2 c = omega (arith, byte_fits _ _ c.requires.3 c.ranges.b.fits)

pub overflow_add-sum-2 : goal.overflow_add-sum-2
overflow_add-sum-2 c = omega (arith, first_fits _ _ _ c.requires.4 c.requires.0 c.ranges.a.fits, byte_fits _ _ c.requires.3 c.ranges.b.fits)

pub overflow_mul-sum-3 : goal.overflow_mul-sum-3
overflow_mul-sum-3 c = omega (arith, byte_fits _ _ c.requires.2 c.ranges.c.fits)

pub overflow_add-sum-3 : goal.overflow_add-sum-3
overflow_add-sum-3 c = omega (
  arith,
  first_fits _ _ _ c.requires.4 c.requires.0 c.ranges.a.fits,
  byte_fits _ _ c.requires.3 c.ranges.b.fits,
  byte_fits _ _ c.requires.2 c.ranges.c.fits,
)

pub overflow_mul-sum-4 : goal.overflow_mul-sum-4
overflow_mul-sum-4 c = omega (arith, byte_fits _ _ c.requires.1 c.ranges.d.fits)

pub overflow_add-sum-4 : goal.overflow_add-sum-4
overflow_add-sum-4 c = omega (
  arith,
  first_fits _ _ _ c.requires.4 c.requires.0 c.ranges.a.fits,
  byte_fits _ _ c.requires.3 c.ranges.b.fits,
  byte_fits _ _ c.requires.2 c.ranges.c.fits,
  byte_fits _ _ c.requires.1 c.ranges.d.fits,
)

pub returns : goal.returns
returns c = (
  fold_is _ _ c.fold-2.ensures ∙ fold_is _ _ c.fold.ensures,
  fold-again _ _ c.fold-2.ensures (fold-most _ _ c.fold.ensures (omega (
    arith,
    first_fits _ _ _ c.requires.4 c.requires.0 c.ranges.a.fits,
    byte_fits _ _ c.requires.3 c.ranges.b.fits,
    byte_fits _ _ c.requires.2 c.ranges.c.fits,
    byte_fits _ _ c.requires.1 c.ranges.d.fits,
  ))),
)
