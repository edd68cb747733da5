use native.Mathlib.Omega.{arith}
use Rattle.licence.proofs.DaysLaws.{digit_low}
use Rattle.licence.proofs.days.digit.Goals as goal

pub overflow_sub-b : goal.overflow_sub-b
overflow_sub-b c = omega (arith, digit_low _ c.requires)
