use native.Mathlib.Omega.{arith}
use Rattle.check_counts.proofs.LevelCountsLaws as laws
use Rattle.check_counts.proofs.level_counts.up_length.Goals as goal

pub returns-then-level-eq0 : goal.returns-then-level-eq0
returns-then-level-eq0 c = laws.up_top _ _ c.requires.1 _ c.if-level-eq0.true

pub overflow_mul-result : goal.overflow_mul-result
overflow_mul-result c = omega (arith, laws.up_small _ _ c.requires.1 _ _ c.requires.0)

pub returns : goal.returns
returns c = laws.up-under _ _ c.requires.1 _ _ c.requires.0 c.requires.2 c.if-level-eq0.false
