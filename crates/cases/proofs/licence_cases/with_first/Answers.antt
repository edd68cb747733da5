use mathlib.Core.Path.{sym}
use native.Mathlib.Omega.{arith}
use lib.Seq.{length-take-le}
use Rattle.cases_tokens.proofs.HexadecimalLaws.{hex-inside}
use Rattle.cases.proofs.licence_cases.with_first.Goals as goal

pub slice_bounds-first-end : goal.slice_bounds-first-end
slice_bounds-first-end c = omega (arith, hex-inside _ 64 _ _ c.hex-made.ensures.value c.in-Ok.is, c.hex-made.auto.out)

pub slice_bounds-of_one-end : goal.slice_bounds-of_one-end
slice_bounds-of_one-end c = sym (length-take-le c.in-Ok.n c.hex-made.new.out (omega (arith, hex-inside _ 64 _ _ c.hex-made.ensures.value c.in-Ok.is, c.hex-made.auto.out)))
