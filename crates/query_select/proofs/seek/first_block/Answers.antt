use native.Mathlib.Omega.{arith}
use Rattle.query_select.proofs.FindByHeaderLaws as laws
use Rattle.query_select.proofs.seek.first_block.Goals as goal

pub level_count-requires : goal.level_count-requires
level_count-requires c = (omega arith, c.requires.0.facts.long)

pub step_along-requires : goal.step_along-requires
step_along-requires c = laws.top-siblings _ _ _ _ c.requires.0 c.requires.1 c.requires.2 c.level_count.ensures

pub returns : goal.returns
returns c = rw c.level_count.ensures at c.step_along.ensures.0
