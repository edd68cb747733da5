use mathlib.Core.Path.{ap, ◌∙◌}
use Rattle.std.specs.Prelude.{Err}
use Rattle.refusals.specs.RefusalsLaws.{passed-on}
use Rattle.licence.proofs.DaysLaws.{good-is, bad-is, day-long}
use Rattle.licence.proofs.LicenceLaws.{renew-bad, renew-late, renew-good}
use Rattle.licence.proofs.renew.Goals as goal

pub returns-in_err-date : goal.returns-in_err-date
returns-in_err-date c =
    let bad = bad-is _ _ c.read.ensures _ c.ok_or.ensures.value _ c.in_err-date.was in
    let both = renew-bad _ bad.0 _ (passed-on _ _ c.from_residual.ensures.1 ∙ ap Err bad.1) in
    record { value = both.0; day_after = both.1 }

pub returns-then-date-ge2099 : goal.returns-then-date-ge2099
returns-then-date-ge2099 c =
    let k = good-is _ _ c.read.ensures _ c.ok_or.ensures.value _ c.in_ok-date.was in
    let both = renew-late _ k.0 _ k.1 c.if-date-ge2099.true in
    record { value = both.0; day_after = both.1 }

pub write-requires : goal.write-requires
write-requires c = day-long _ (good-is _ _ c.read.ensures _ c.ok_or.ensures.value _ c.in_ok-date.was).0

pub returns : goal.returns
returns c =
    let k = good-is _ _ c.read.ensures _ c.ok_or.ensures.value _ c.in_ok-date.was in
    let both = renew-good _ k.0 _ k.1 c.if-date-ge2099.false _ c.renewal.ensures _ c.write.ensures in
    record { value = both.0; day_after = both.1 }
