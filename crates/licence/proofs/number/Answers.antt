use Rattle.std.proofs.Common.{ap, ◌∙◌, Err}
use Rattle.refusals.specs.RefusalsLaws.{passed-on}
use Rattle.licence.proofs.DaysLaws.{good-is, bad-is, good-date, number-of-good, number-of-bad}
use Rattle.licence.proofs.number.Goals as goal

pub returns-in_err-date-clause-value : goal.returns-in_err-date-clause-value
returns-in_err-date-clause-value c =
    let bad = bad-is _ _ c.read.ensures _ c.ok_or.ensures.value _ c.in_err-date.was in
    passed-on _ _ c.from_residual.ensures.1 ∙ ap Err bad.1 ∙ number-of-bad _ bad.0

pub number-requires : goal.number-requires
number-requires c = good-date _ _ c.read.ensures _ c.ok_or.ensures.value _ c.in_ok-date.was

pub returns-clause-value : goal.returns-clause-value
returns-clause-value c =
    let good = good-is _ _ c.read.ensures _ c.ok_or.ensures.value _ c.in_ok-date.was in
    number-of-good _ good.0 _ good.1 _ c.number.ensures.0
