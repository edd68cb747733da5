use mathlib.Core.Path.{sym}
use Prim.Native.Nat.{◌≤◌}
use native.Mathlib.Omega.{arith}
use lib.Seq.{length-take-le}
use Rattle.cases.proofs.guide_cases.of_tree.Goals as goal

pub slice_bounds-guide-end : goal.slice_bounds-guide-end
slice_bounds-guide-end c = let inside : c.in-Ok.n ≤ 300 = c.guide_of-made.ensures c.in-Ok.n c.in-Ok.is in omega (arith, inside, c.guide_of-made.auto.out)

pub slice_bounds-put-end : goal.slice_bounds-put-end
slice_bounds-put-end c = let inside : c.in-Ok.n ≤ 300 = c.guide_of-made.ensures c.in-Ok.n c.in-Ok.is in sym (length-take-le c.in-Ok.n c.guide_of-made.new.out (omega (arith, inside, c.guide_of-made.auto.out)))
