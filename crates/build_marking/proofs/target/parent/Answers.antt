use borrow.Author.Tests.{eq-eqb, ne_eqb}
use native.Mathlib.Nat.{div-mul-le_self}
use native.Mathlib.Omega.{arith}
use Rattle.build_marking.proofs.target.parent.Goals as goal

pub returns-then-level-eq0 : goal.returns-then-level-eq0
returns-then-level-eq0 c = rw (eq-eqb c.args.level.number 0 c.if-level-eq0.true)

pub overflow_mul-result : goal.overflow_mul-result
overflow_mul-result c = omega (arith, div-mul-le_self c.args.start.0 c.args.level.above)

pub returns : goal.returns
returns c = rw (ne_eqb c.args.level.number 0 c.if-level-eq0.false)
