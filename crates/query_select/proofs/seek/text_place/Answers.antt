use native.Mathlib.Omega.{arith}
use Rattle.query_select.proofs.FindByHeaderLaws as laws
use Rattle.query_select.proofs.seek.text_place.Goals as goal

pub overflow_cast-result-then-place-n : goal.overflow_cast-result-then-place-n
overflow_cast-result-then-place-n c = omega arith

pub returns-then-place-n : goal.returns-then-place-n
returns-then-place-n c = (laws.place-in _ _ c.if-place-n.true, tt)

pub returns : goal.returns
returns c = (laws.place-past _ _ c.if-place-n.false, omega arith)
