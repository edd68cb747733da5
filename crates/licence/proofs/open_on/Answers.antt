use mathlib.Core.Path.{ap, ◌∙◌}
use Rattle.std.specs.Prelude.{Err}
use Rattle.refusals.specs.RefusalsLaws.{passed-on}
use Rattle.licence.proofs.DaysLaws.{number-good, number-bad}
use Rattle.licence.proofs.LicenceLaws.{first-bad, last-bad, today-bad, in-term}
use Rattle.licence.proofs.open_on.Goals as goal

pub returns-in_err-begin : goal.returns-in_err-begin
returns-in_err-begin c =
    let first = number-bad _ _ c.number.ensures.value _ c.in_err-begin.was in
    first-bad _ _ _ first.0 _ (passed-on _ _ c.from_residual.ensures.1 ∙ ap Err first.1)

pub returns-in_err-end : goal.returns-in_err-end
returns-in_err-end c =
    let first = number-good _ _ c.number.ensures.value _ c.in_ok-begin.was in
    let last = number-bad _ _ c.number-2.ensures.value _ c.in_err-end.was in
    last-bad _ _ _ first.0 last.0 _ (passed-on _ _ c.from_residual-in_err-end.ensures.1 ∙ ap Err last.1)

pub returns-in_err-day : goal.returns-in_err-day
returns-in_err-day c =
    let first = number-good _ _ c.number.ensures.value _ c.in_ok-begin.was in
    let last = number-good _ _ c.number-2.ensures.value _ c.in_ok-end.was in
    let today = number-bad _ _ c.number-3.ensures.value _ c.in_err-day.was in
    today-bad _ _ _ first.0 last.0 today.0 _ (passed-on _ _ c.from_residual-in_err-day.ensures.1 ∙ ap Err today.1)

pub returns : goal.returns
returns c =
    let first = number-good _ _ c.number.ensures.value _ c.in_ok-begin.was in
    let last = number-good _ _ c.number-2.ensures.value _ c.in_ok-end.was in
    let today = number-good _ _ c.number-3.ensures.value _ c.in_ok-day.was in
    in-term _ _ _ first.0 last.0 today.0 _ _ _ first.1 last.1 today.1 _ c.in_term.ensures
