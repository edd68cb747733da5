use native.Mathlib.Omega.{arith}
use Rattle.licence.specs.MonthLaws.{month-short}
use Rattle.licence.proofs.ClosedForms.{number_is}
use Rattle.licence.proofs.calendar.number.Goals as goal

pub overflow_add-result-4 : goal.overflow_add-result-4
overflow_add-result-4 c = omega (arith, month-short c.args.d.year c.args.d.month c.requires.month_low c.requires.month_high)

pub returns : goal.returns
returns c = (
  number_is c.args.d c.requires _ c.before_month.ensures.0,
  omega (arith, month-short c.args.d.year c.args.d.month c.requires.month_low c.requires.month_high),
)
