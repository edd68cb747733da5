use native.Mathlib.Omega.{arith}
use mathlib.Core.Path.{refl}
use Rattle.scan_hash_table.specs.ChainHeads.{bucket_of}
use Rattle.scan_rolling_hash.proofs.WindowFingerprintLaws.{rolling-product-fits}
use Rattle.scan_hash_table.proofs.ChainHeadLaws.{bucket-lt}
use Rattle.scan_hash_table.proofs.chain_head.bucket.Goals as goal

pub overflow_mul-result : goal.overflow_mul-result
unfolding bucket_of
overflow_mul-result c = omega (arith, rolling-product-fits _ _ c.ranges.h.fits c.ranges.heads.fits)

pub overflow_cast-result-3 : goal.overflow_cast-result-3
unfolding bucket_of
overflow_cast-result-3 c = omega (arith, bucket-lt _ _ c.requires.1 c.requires.0, c.ranges.heads.fits)

pub returns : goal.returns
unfolding bucket_of
returns c = (refl, bucket-lt _ _ c.requires.1 c.requires.0)
