use native.Mathlib.Omega.{arith}
use Rattle.layout.proofs.ShapeLaws.{shapes}
use Rattle.walk_steps.proofs.StepLaws as laws
use Rattle.walk_steps.proofs.resolve_target.Goals as goal

pub returns-then-level-shape : goal.returns-then-level-shape
returns-then-level-shape c = laws.resolved-last _ _ _ _ (omega (arith, (shapes _ _ c.shape_of-shape.ensures).levels_is, c.if-level-shape.true))

pub returns-in-Kept : goal.returns-in-Kept
returns-in-Kept c = laws.resolved-kept
    _ _ _ _ _ c.target.ensures _ _ (omega (
      arith,
      (shapes _ _ c.shape_of-shape.ensures).levels_is,
      c.if-level-shape.false,
      c.requires.on.level_in,
    )) c.in-Kept.is

pub returns-in-Points : goal.returns-in-Points
returns-in-Points c = laws.resolved-points _ _ _ _ _ c.target.ensures _ _ c.in-Points.is

pub returns-in-Off : goal.returns-in-Off
returns-in-Off c = laws.resolved-off _ _ _ _ _ c.target.ensures c.in-Off.is
