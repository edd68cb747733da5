use mathlib.Core.Path.{sym}
use lib.Seq.{length-take-le}
use Rattle.cases_script.proofs.GivenBytesLaws.{gives-inside}
use Rattle.cases.proofs.order_cases.beside.Goals as goal

pub slice_bounds-room-end : goal.slice_bounds-room-end
slice_bounds-room-end c = gives-inside _ _ _ _ c.named-made.ensures c.in-Ok.is

pub slice_bounds-order-end : goal.slice_bounds-order-end
slice_bounds-order-end c = sym (length-take-le c.in-Ok.n c.named-made.new.out (gives-inside _ _ _ _ c.named-made.ensures c.in-Ok.is))
