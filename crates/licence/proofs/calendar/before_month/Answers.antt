use mathlib.Core.Path.{sym, ◌∙◌}
use native.Mathlib.Omega.{arith}
use Rattle.licence.proofs.ClosedForms.{before_low, early-month, late-leap, late-plain}
use Rattle.licence.proofs.calendar.before_month.Goals as goal

pub returns-then-month-le2 : goal.returns-then-month-le2
returns-then-month-le2 c = (
  early-month c.args.year c.args.month c.requires.0 c.requires.1 c.if-month-le2.true,
  omega (arith, before_low c.args.year c.args.month c.requires.0 c.requires.1),
)

pub overflow_add-result : goal.overflow_add-result
overflow_add-result c = omega (arith, before_low c.args.year c.args.month c.requires.0 c.requires.1)

pub returns-then-is_leap : goal.returns-then-is_leap
returns-then-is_leap c = (
  late-leap c.args.year c.args.month c.requires.0 c.requires.1 c.if-month-le2.false (sym c.is_leap.ensures ∙ c.if-is_leap.true),
  omega (arith, before_low c.args.year c.args.month c.requires.0 c.requires.1),
)

pub returns : goal.returns
returns c = (
  late-plain c.args.year c.args.month c.requires.0 c.requires.1 c.if-month-le2.false (sym c.is_leap.ensures ∙ c.if-is_leap.false),
  omega (arith, before_low c.args.year c.args.month c.requires.0 c.requires.1),
)
