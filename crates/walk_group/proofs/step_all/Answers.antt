use native.Mathlib.Omega.{arith}
use Rattle.walk_group.proofs.GroupLaws as laws
use Rattle.walk_group.proofs.step_all.Goals as goal

pub returns-in_default : goal.returns-in_default
returns-in_default c = laws.steps-off _ _ _ _ _ _ _ c.loop-k.invariant _ c.step-next.ensures _ c.loop-k-test.true c.in_default.is

pub loop-k-preserved : goal.loop-k-preserved
loop-k-preserved c = laws.steps-more _ _ _ _ _ _ _ c.loop-k.invariant _ c.step-next.ensures _ c.in-Some.is
    (omega (arith, c.requires.2)) (omega (arith, c.requires.3))
