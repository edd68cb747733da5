use mathlib.Core.Path.{sym}
use lib.Seq.{length-take-le}
use Rattle.cases.proofs.answer.Goals as goal

pub slice_bounds-line-end : goal.slice_bounds-line-end
slice_bounds-line-end c = sym (length-take-le c.args.at c.args.lines.now c.requires)
