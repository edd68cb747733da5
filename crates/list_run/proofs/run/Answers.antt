use borrow.Author.Rules.{rules}
use lib.Seq.{length-take-le}
use mathlib.Core.Path.{sym}
use native.Mathlib.Omega.{arith}
use Rattle.list_lines.proofs.WrittenLaws.{length-put}
use Rattle.list_run.proofs.run.Goals as goal

pub slice_bounds-out-end : goal.slice_bounds-out-end
slice_bounds-out-end c = omega (arith, c.print-size.ensures.short, length-put (search rules) c.print-size.ensures)

pub slice_bounds-write_all-end : goal.slice_bounds-write_all-end
slice_bounds-write_all-end c = sym (length-take-le c.print-size.result
    c.print-size.new.out (omega (arith, c.print-size.ensures.short, length-put (search rules) c.print-size.ensures)))
