use native.Mathlib.Omega.{arith}
use Rattle.cases_script.proofs.GivenBytesLaws.{again-none, again-more, again-all}
use Rattle.cases_script.proofs.given_bytes.again.Goals as goal

pub loop-i-init : goal.loop-i-init
loop-i-init c = again-none _ _

pub loop-i-preserved : goal.loop-i-preserved
loop-i-preserved c = again-more c.args.out.now c.loop-i.out c.args.k c.loop-i.i c.requires (omega arith) (omega arith) c.loop-i.invariant

pub returns : goal.returns
returns c = again-all c.args.out.now c.loop-i.out _ _ c.loop-i.auto.out (omega arith) c.loop-i.invariant
