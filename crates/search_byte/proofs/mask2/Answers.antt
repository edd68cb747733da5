use native.Mathlib.Omega.{arith}
use Rattle.search_byte.proofs.FirstByteLaws as laws
use Rattle.search_byte.proofs.mask2.Goals as goal

pub returns : goal.returns
returns c = (
  laws.mask-two _ _ _ _ _ c.bit.ensures.0 c.bit-2.ensures.0,
  omega (arith, c.bit.ensures.1, c.bit-2.ensures.1),
)
