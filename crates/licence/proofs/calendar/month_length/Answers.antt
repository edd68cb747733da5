use mathlib.Core.Path.{sym, ◌∙◌}
use Rattle.licence.proofs.ClosedForms.{february-leap, february-plain, other-month}
use Rattle.licence.proofs.calendar.month_length.Goals as goal

pub returns-then-is_leap : goal.returns-then-is_leap
returns-then-is_leap c = february-leap _ _ c.if-month-eq2.true (sym c.is_leap.ensures ∙ c.if-is_leap.true)

pub returns-then-month-eq2 : goal.returns-then-month-eq2
returns-then-month-eq2 c = february-plain _ _ c.if-month-eq2.true (sym c.is_leap.ensures ∙ c.if-is_leap.false)

pub returns : goal.returns
returns c = other-month _ _ c.requires.0 c.if-month-eq2.false
