use mathlib.Core.Path.{refl, ◌∙◌}
use native.Mathlib.Omega.{arith}
use Rattle.cases.proofs.run.Goals as goal

pub loop-at-init : goal.loop-at-init
loop-at-init c = (omega arith, refl, refl)

pub past-at-requires : goal.past-at-requires
past-at-requires c = c.loop-at.invariant.0

pub loop-at-smaller : goal.loop-at-smaller
loop-at-smaller c = omega (arith, c.past-at.ensures.later c.loop-at-test.true, c.past-at.ensures.inside, c.loop-at-test.true)

pub loop-at-preserved : goal.loop-at-preserved
loop-at-preserved c = (c.past-at.ensures.inside, c.answer.auto.bytes ∙ c.loop-at.invariant.1, c.answer.auto.lent ∙ c.loop-at.invariant.2)

pub shape_of-bytes : goal.shape_of-bytes
shape_of-bytes c = c.loop-at.invariant.1

pub shape_of-lent : goal.shape_of-lent
shape_of-lent c = c.loop-at.invariant.2
