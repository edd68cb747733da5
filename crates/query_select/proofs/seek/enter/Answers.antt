use mathlib.Core.Path.{refl}
use native.Mathlib.Omega.{arith}
use Rattle.query_select.specs.Seeks.{entering}
use Rattle.query_select.proofs.seek.enter.Goals as goal

pub overflow_add-result : goal.overflow_add-result
unfolding entering
overflow_add-result c = omega (arith, c.requires.0)

pub overflow_add-result-2 : goal.overflow_add-result-2
unfolding entering
overflow_add-result-2 c = omega (arith, c.requires.0)

pub overflow_sub-result : goal.overflow_sub-result
unfolding entering
overflow_sub-result c = omega (arith, c.requires.1)

pub returns : goal.returns
unfolding entering
returns c = refl
