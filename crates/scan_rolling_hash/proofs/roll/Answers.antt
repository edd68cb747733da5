use native.Mathlib.Omega.{arith}
use Rattle.scan_rolling_hash.proofs.WindowFingerprintLaws.{roll-fits, leaving-fits}
use Rattle.scan_rolling_hash.proofs.roll.Goals as goal

pub overflow_mul-h : goal.overflow_mul-h
overflow_mul-h c = omega (arith, roll-fits _ _ _ c.requires.1 c.ranges.enters.fits c.requires.0)

pub overflow_mul-leaves : goal.overflow_mul-leaves
overflow_mul-leaves c = omega (arith, leaving-fits _ _ c.ranges.leaves.fits c.requires.2)

pub overflow_add-h-2 : goal.overflow_add-h-2
overflow_add-h-2 c = omega (
  arith,
  roll-fits _ _ _ c.requires.1 c.ranges.enters.fits c.requires.0,
  leaving-fits _ _ c.ranges.leaves.fits c.requires.2,
)

pub reduce-requires : goal.reduce-requires
reduce-requires c = omega (
  arith,
  roll-fits _ _ _ c.requires.1 c.ranges.enters.fits c.requires.0,
  leaving-fits _ _ c.ranges.leaves.fits c.requires.2,
)
