use native.Mathlib.Omega.{arith}
use Rattle.build_levels.proofs.LevelStepLaws.{next-made}
use Rattle.build_levels.proofs.level_step.next_level.Goals as goal

pub overflow_cast-result : goal.overflow_cast-result
overflow_cast-result c = omega (arith, c.place.ensures.0, c.requires.counted_bound)

pub returns : goal.returns
returns c = next-made c.args.level c.args.count _ c.args.counted.now c.place.ensures.0
