use borrow.Author.Rules.{rules}
use lib.Seq.{length-take-le}
use mathlib.Core.Path.{sym}
use native.Mathlib.Omega.{arith}
use Rattle.list_lines.proofs.WrittenLaws.{length-put}
use Rattle.cases_replies.proofs.list.Goals as goal

pub slice_bounds-out-end : goal.slice_bounds-out-end
slice_bounds-out-end c = omega (arith, c.print-n.ensures.short, length-put (search rules) c.print-n.ensures)

pub slice_bounds-lines-end : goal.slice_bounds-lines-end
slice_bounds-lines-end c = sym (length-take-le c.print-n.result c.print-n.new.out (omega (arith, c.print-n.ensures.short, length-put (search rules) c.print-n.ensures)))
