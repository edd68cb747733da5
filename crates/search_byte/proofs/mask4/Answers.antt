use mathlib.Core.Path.{refl}
use native.Mathlib.Omega.{arith}
use Rattle.search_byte.proofs.FirstByteLaws as laws
use Rattle.search_byte.proofs.mask4.Goals as goal

pub returns : goal.returns
returns c = (
  laws.mask-halves _ _ 2 4 _ _ _ refl c.mask2.ensures.0 c.mask2-2.ensures.0,
  omega (arith, c.mask2.ensures.1, c.mask2-2.ensures.1),
)
