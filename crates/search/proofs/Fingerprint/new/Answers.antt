use native.Mathlib.Omega.{arith}
use Rattle.search.proofs.Usable.{modulus-positive, made}
use Rattle.search.proofs.Fingerprint.new.Goals as goal

pub nonzero_rem-result : goal.nonzero_rem-result
nonzero_rem-result c = omega (arith, c.usable_modulus-q.ensures, modulus-positive c.args.modulus)

pub returns : goal.returns
returns c = made _ _ _ c.usable_modulus-q.ensures
