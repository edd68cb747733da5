use mathlib.Core.Path.{refl, sym}
use Rattle.columns.specs.ColumnLaws.{width-none, width_some}
use Rattle.columns.proofs.divides.Goals as goal

pub returns-then-width-ne0 : goal.returns-then-width-ne0
returns-then-width-ne0 c = sym (width_some _ _ c.if-width-ne0.true)

pub returns-else-width-ne0 : goal.returns-else-width-ne0
returns-else-width-ne0 c = rw c.if-width-ne0.false (sym (width-none 0 c.args.n refl))
