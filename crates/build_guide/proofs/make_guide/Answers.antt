use Rattle.refusals.specs.RefusalsLaws.{number-above, passed-on}
use Rattle.build_guide.proofs.GuideWrittenLaws as laws
use Rattle.build_guide.proofs.make_guide.Goals as goal

pub returns-in_err-check : goal.returns-in_err-check
returns-in_err-check c = let k = laws.check-refuses _ _ c.check.ensures _ c.in_err-check.was in
    let u = laws.unmade _ _ _ k.0 k.1 in
    rw (passed-on _ _ c.from_residual.ensures.1) (record { result_value = (u.0, number-above _); table_after = u.1 })

pub put_guide-requires : goal.put_guide-requires
put_guide-requires c = laws.check-passes _ _ c.check.ensures _ c.in_ok-check.was
