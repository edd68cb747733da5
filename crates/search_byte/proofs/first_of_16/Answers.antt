use Prim.Native.Nat.{◌+◌}
use native.Mathlib.Omega.{arith}
use lib.Count.{trailing_le}
use Rattle.search_byte.proofs.FirstByteLaws as laws
use Rattle.search_byte.proofs.first_of_16.Goals as goal

pub overflow_cast-result : goal.overflow_cast-result
overflow_cast-result c = record { fits = omega (arith, trailing_le 32 (65536 + c.mask16.result)) }

pub returns : goal.returns
returns c = laws.first-of-sixteen _ _ _ _ c.mask16.ensures.0
