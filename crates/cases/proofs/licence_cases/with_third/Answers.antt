use mathlib.Core.Path.{sym}
use native.Mathlib.Omega.{arith}
use lib.Seq.{length-take-le}
use Rattle.cases_tokens.proofs.HexadecimalLaws.{hex-inside}
use Rattle.cases.proofs.licence_cases.with_third.Goals as goal

pub slice_bounds-third-end : goal.slice_bounds-third-end
slice_bounds-third-end c = omega (arith, hex-inside _ 64 _ _ c.hex-made.ensures.value c.in-Ok.is, c.hex-made.auto.out)

pub slice_bounds-open_on-end : goal.slice_bounds-open_on-end
slice_bounds-open_on-end c = sym (length-take-le c.in-Ok.n c.hex-made.new.out (omega (arith, hex-inside _ 64 _ _ c.hex-made.ensures.value c.in-Ok.is, c.hex-made.auto.out)))
