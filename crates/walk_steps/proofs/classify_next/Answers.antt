use native.Mathlib.Omega.{arith}
use Rattle.walk_steps.proofs.StepLaws as laws
use Rattle.walk_steps.proofs.classify_next.Goals as goal

pub returns-then-count-number : goal.returns-then-count-number
returns-then-count-number c = laws.classify-past _ _ _ _
    c.requires _ _ (omega (arith, c.level_count-count.ensures, c.if-count-number.true))
