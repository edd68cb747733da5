use mathlib.Core.Path.{sym}
use native.Mathlib.Omega.{arith}
use lib.Seq.{length-take-le}
use Rattle.cases_tokens.proofs.HexadecimalLaws.{hex-inside}
use Rattle.cases.proofs.ask.build_of.Goals as goal

pub slice_bounds-counted-end : goal.slice_bounds-counted-end
slice_bounds-counted-end c = omega (arith, hex-inside _ 256 _ _ c.hex-made.ensures.value c.in-Ok.is, c.hex-made.auto.out)

pub slice_bounds-build_counting-end : goal.slice_bounds-build_counting-end
slice_bounds-build_counting-end c = sym (length-take-le c.in-Ok.n
    c.hex-made.new.out (omega (arith, hex-inside _ 256 _ _ c.hex-made.ensures.value c.in-Ok.is, c.hex-made.auto.out)))
