use Rattle.std.proofs.Common.{ap, ◌∙◌, take_all, arith}
use Rattle.search.specs.FingerValues.{finger}
use Rattle.search.proofs.FingerprintLaws.{finger-nil, finger-push, finger-below}
use Rattle.search.proofs.karp_rabin.fingerprint.Goals as goal

pub loop-x-init : goal.loop-x-init
loop-x-init c = finger-nil _ _ (omega arith)

pub push-h-requires : goal.push-h-requires
push-h-requires c = (c.requires, rw c.loop-x.invariant (finger-below _ _ _ (omega arith)))

pub loop-x-preserved : goal.loop-x-preserved
loop-x-preserved c = c.push-h.ensures ∙ finger-push _ _ c.args.s.now c.loop-x.x-index c.loop-x.h (omega arith) c.loop-x.invariant

pub returns : goal.returns
returns c = c.loop-x.invariant ∙ ap (finger _ _) (take_all c.loop-x.x-index c.args.s.now (omega arith))
