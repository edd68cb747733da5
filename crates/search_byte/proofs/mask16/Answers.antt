use mathlib.Core.Path.{refl}
use native.Mathlib.Omega.{arith}
use Rattle.search_byte.proofs.FirstByteLaws as laws
use Rattle.search_byte.proofs.mask16.Goals as goal

pub returns : goal.returns
returns c = (
  laws.mask-halves _ _ 8 256 _ _ _ refl c.mask8.ensures.0 c.mask8-2.ensures.0,
  omega (arith, c.mask8.ensures.1, c.mask8-2.ensures.1),
)
