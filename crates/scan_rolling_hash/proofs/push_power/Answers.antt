use native.Mathlib.Omega.{arith}
use Rattle.scan_rolling_hash.proofs.WindowFingerprintLaws.{power-fits}
use Rattle.scan_rolling_hash.proofs.push_power.Goals as goal

pub overflow_mul-w : goal.overflow_mul-w
overflow_mul-w c = omega (arith, power-fits _ _ c.requires.1 c.requires.0)

pub reduce-requires : goal.reduce-requires
reduce-requires c = omega (arith, power-fits _ _ c.requires.1 c.requires.0)
