use mathlib.Core.Path.{sym}
use native.Mathlib.Omega.{arith}
use lib.Seq.{length-take-le}
use Rattle.cases_tokens.proofs.HexadecimalLaws.{hex-inside}
use Rattle.cases.proofs.beside.of_tree.Goals as goal

pub slice_bounds-beside-end : goal.slice_bounds-beside-end
slice_bounds-beside-end c = omega (arith, hex-inside _ 300 _ _ c.hex-made.ensures.value c.in-Ok.is, c.hex-made.auto.out)

pub slice_bounds-put-end : goal.slice_bounds-put-end
slice_bounds-put-end c = sym (length-take-le c.in-Ok.n
    c.hex-made.new.out (omega (arith, hex-inside _ 300 _ _ c.hex-made.ensures.value c.in-Ok.is, c.hex-made.auto.out)))
