use native.Mathlib.Omega.{arith}
use Rattle.walk_steps.proofs.StepLaws as laws
use Rattle.walk_steps.proofs.top_position.Goals as goal

pub overflow_mul-result : goal.overflow_mul-result
overflow_mul-result c = record { fits = omega (arith, c.well_formed.0.1.1.0.1, (laws.rest_is _ _ _ c.quotient-blocks.ensures).0) }

pub overflow_sub-result : goal.overflow_sub-result
overflow_sub-result c = omega (arith, (laws.rest_is _ _ _ c.quotient-blocks.ensures).0)

pub returns : goal.returns
returns c = laws.top-position-is _ _ _ c.quotient-blocks.ensures
