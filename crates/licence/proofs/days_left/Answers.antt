use mathlib.Core.Path.{ap, ◌∙◌}
use mir.Syntax.{w32}
use mir.ValLaws.{to_z-of_z}
use Rattle.std.specs.Prelude.{Err}
use Rattle.refusals.specs.RefusalsLaws.{passed-on}
use Rattle.licence.proofs.DaysLaws.{number-good, number-bad}
use Rattle.licence.proofs.LicenceLaws.{left-last, left-today, left-days}
use Rattle.licence.proofs.days_left.Goals as goal

pub returns-in_err-end : goal.returns-in_err-end
returns-in_err-end c =
    let last = number-bad _ _ c.number.ensures.value _ c.in_err-end.was in
    left-last _ _ last.0 _ (passed-on _ _ c.from_residual.ensures.1 ∙ ap Err last.1)

pub returns-in_err-day : goal.returns-in_err-day
returns-in_err-day c =
    let last = number-good _ _ c.number.ensures.value _ c.in_ok-end.was in
    let today = number-bad _ _ c.number-2.ensures.value _ c.in_err-day.was in
    left-today _ _ last.0 today.0 _ (passed-on _ _ c.from_residual-in_err-day.ensures.1 ∙ ap Err today.1)

pub returns : goal.returns
returns c =
    let last = number-good _ _ c.number.ensures.value _ c.in_ok-end.was in
    let today = number-good _ _ c.number-2.ensures.value _ c.in_ok-day.was in
    left-days _ _ last.0 today.0 _ _ last.1 today.1 _ (to_z-of_z w32 _ (record { sfits = c.difference.type_inv }) ∙ c.difference.ensures)
