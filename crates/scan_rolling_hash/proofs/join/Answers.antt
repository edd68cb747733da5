use native.Mathlib.Omega.{arith}
use Rattle.scan_rolling_hash.proofs.WindowFingerprintLaws.{rolling-product-fits}
use Rattle.scan_rolling_hash.proofs.join.Goals as goal

pub overflow_mul-result : goal.overflow_mul-result
overflow_mul-result c = omega (arith, rolling-product-fits _ _ c.ranges.h.fits c.ranges.top.fits)

pub overflow_add-result : goal.overflow_add-result
overflow_add-result c = omega (arith, rolling-product-fits _ _ c.ranges.h.fits c.ranges.top.fits)
