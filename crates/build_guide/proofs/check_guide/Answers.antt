use mathlib.Core.Bool.{true, false}
use mathlib.Core.Path.{sym, ◌∙◌}
use borrow.Author.Tests.{not-true, not-false}
use Rattle.refusals.specs.RefusalsLaws.{passed-on}
use Rattle.build_guide.proofs.GuideWrittenLaws as laws
use Rattle.build_guide.proofs.check_guide.Goals as goal

pub returns-in_err-check : goal.returns-in_err-check
returns-in_err-check c = let k = laws.check-refuses _ _ c.check.ensures _ c.in_err-check.was in
    rw (passed-on _ _ c.from_residual.ensures.1) (laws.unchecked _ _ _ k.0 k.1)

pub guide_right-requires : goal.guide_right-requires
guide_right-requires c = laws.check-passes _ _ c.check.ensures _ c.in_ok-check.was

pub returns-then-not-guide_right : goal.returns-then-not-guide_right
returns-then-not-guide_right c = laws.compared _ _ (laws.check-passes _ _ c.check.ensures _ c.in_ok-check.was)
    false (sym (not-true _ c.if-not-guide_right.true-raw) ∙ c.guide_right.ensures)

pub returns : goal.returns
returns c = laws.compared _ _ (laws.check-passes _ _ c.check.ensures _ c.in_ok-check.was)
    true (sym (not-false _ c.if-not-guide_right.false-raw) ∙ c.guide_right.ensures)
