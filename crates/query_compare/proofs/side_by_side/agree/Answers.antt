use native.Mathlib.Omega.{arith}
use Rattle.query_compare.proofs.side_by_side.agree.Goals as goal

pub returns-then-all_agree : goal.returns-then-all_agree
returns-then-all_agree c = record { most = omega arith; same = c.all_agree.ensures c.if-all_agree.true; differ = λ h. absurd (let z : ⊥ = omega arith in z) }

pub returns : goal.returns
returns c = c.first_difference.ensures
