use Rattle.std.proofs.Common.{◌≡◌, take}
use Rattle.search.specs.FingerValues.{finger}
use Rattle.search.proofs.karp_rabin.fingerprint.Given as goal

abbrev pub invariant-loop-x : goal.invariant-loop-x
invariant-loop-x l = l.h ≡ finger l.by.base l.by.modulus (take l.x-index l.s)
