use mathlib.Core.Path.{sym}
use native.Mathlib.Omega.{arith}
use lib.Seq.{length-take-le}
use Rattle.cases_script.proofs.GivenBytesLaws.{gives-inside}
use Rattle.cases.proofs.output_cases.ask.Goals as goal

pub slice_bounds-put-end : goal.slice_bounds-put-end
slice_bounds-put-end c = gives-inside _ _ _ _ c.named-made.ensures c.in-Ok.is

pub slice_bounds-put-end-in-Ok : goal.slice_bounds-put-end-in-Ok
slice_bounds-put-end-in-Ok c = sym (length-take-le c.in-Ok.n c.named-made.new.out (gives-inside _ _ _ _ c.named-made.ensures c.in-Ok.is))

pub slice_bounds-put-end-in-Ok-3 : goal.slice_bounds-put-end-in-Ok-3
slice_bounds-put-end-in-Ok-3 c = sym (length-take-le _ c.args.lent.now (omega arith))
