use Rattle.std.proofs.Common.{arith}
use Rattle.row_filter.specs.RowAutomatonLaws.{scanning-none, scanning-end}
use Rattle.row_filter.proofs.ScanStepLaws.{step-found, step-on}
use Rattle.row_filter.proofs.scan.Goals as goal

pub loop-i-init : goal.loop-i-init
loop-i-init g c = scanning-none _ _ _ _

pub returns-in-Found : goal.returns-in-Found
returns-in-Found g c = step-found _ _ _ _ _ _ _ c.loop-i.invariant c.loop-i-test.true _ c.advance.ensures _ c.in-Found.is

pub loop-i-smaller : goal.loop-i-smaller
loop-i-smaller g c = let k = step-on _ _ _ _ _ _ _ c.loop-i.invariant c.loop-i-test.true _ c.advance.ensures _ _ _ c.in-On.is in omega (arith, k.0)

pub loop-i-preserved : goal.loop-i-preserved
loop-i-preserved g c = (step-on _ _ _ _ _ _ _ c.loop-i.invariant c.loop-i-test.true _ c.advance.ensures _ _ _ c.in-On.is).1

pub returns : goal.returns
returns g c = scanning-end _ _ _ _ _ _ _ c.loop-i.invariant c.loop-i-test.false
