use mathlib.Core.Path.{sym}
use lib.Seq.{length-take-le}
use Rattle.cases_script.proofs.GivenBytesLaws.{gives-inside}
use Rattle.cases.proofs.guide_cases.beside.Goals as goal

pub slice_bounds-of_tree-end : goal.slice_bounds-of_tree-end
slice_bounds-of_tree-end c = gives-inside _ _ _ _ c.named-made.ensures c.in-Ok.is

pub slice_bounds-of_tree-end-in-Ok : goal.slice_bounds-of_tree-end-in-Ok
slice_bounds-of_tree-end-in-Ok c = sym (length-take-le c.in-Ok.n c.named-made.new.out (gives-inside _ _ _ _ c.named-made.ensures c.in-Ok.is))
