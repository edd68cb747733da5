use native.Mathlib.Omega.{arith}
use Rattle.check_counts.proofs.PrefixLaws as laws
use Rattle.check_counts.proofs.CountsHeader as facts
use Rattle.check_counts.proofs.prefix.step.Goals as goal

pub before-before-requires : goal.before-before-requires
before-before-requires c = facts.before-there _ _ _ _ _ c.requires.1.table

pub returns : goal.returns
returns c = (
  laws.step_is _ _ _ _ _ _ c.before-before.ensures _ c.prefix_target-holder.ensures.0,
  omega (arith, c.before-before.type_inv, c.prefix_target-holder.ensures.1),
)
