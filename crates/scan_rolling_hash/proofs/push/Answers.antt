use native.Mathlib.Omega.{arith}
use Rattle.scan_rolling_hash.proofs.WindowFingerprintLaws.{push-fits, fold-fits, fold_is}
use Rattle.scan_rolling_hash.proofs.push.Goals as goal

pub overflow_mul-h : goal.overflow_mul-h
overflow_mul-h c = omega (arith, push-fits _ _ _ c.requires.0 c.ranges.enters.fits c.requires.1)

pub returns : goal.returns
returns c = (fold_is _ _ c.fold.ensures, fold-fits _ _ c.fold.ensures (push-fits _ _ _ c.requires.0 c.ranges.enters.fits c.requires.1))
