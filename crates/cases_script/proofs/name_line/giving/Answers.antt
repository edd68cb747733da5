use native.Mathlib.Omega.{arith}
use Rattle.cases_script.proofs.NameLineLaws.{left-all, left-found, left-next, left-none}
use Rattle.cases_script.proofs.name_line.giving.Goals as goal

pub loop-at-init : goal.loop-at-init
loop-at-init c = left-all _ _

pub gives-requires : goal.gives-requires
gives-requires c = c.loop-at.invariant.inside

pub until-requires : goal.until-requires
until-requires c = omega (arith, c.loop-at.invariant.inside)

pub returns-then-gives : goal.returns-then-gives
returns-then-gives c = left-found
    _ _ _ c.loop-at.invariant c.loop-at-test.true _ c.gives.ensures _ c.if-gives.true c.until.ensures

pub past-at-requires : goal.past-at-requires
past-at-requires c = c.loop-at.invariant.inside

pub loop-at-smaller : goal.loop-at-smaller
loop-at-smaller c = omega (arith, c.past-at.ensures.later c.loop-at-test.true, c.loop-at-test.true, c.past-at.ensures.inside)

pub loop-at-preserved : goal.loop-at-preserved
loop-at-preserved c = left-next _ _ _ c.loop-at.invariant c.loop-at-test.true _ c.gives.ensures _ c.if-gives.false c.past-at.ensures

pub returns : goal.returns
returns c = left-none _ _ _ c.loop-at.invariant c.loop-at-test.false
