use mathlib.Core.Path.{refl}
use native.Mathlib.Omega.{arith}
use Rattle.search_byte.proofs.FirstByteLaws as laws
use Rattle.search_byte.proofs.mask8.Goals as goal

pub returns : goal.returns
returns c = (
  laws.mask-halves _ _ 4 16 _ _ _ refl c.mask4.ensures.0 c.mask4-2.ensures.0,
  omega (arith, c.mask4.ensures.1, c.mask4-2.ensures.1),
)
