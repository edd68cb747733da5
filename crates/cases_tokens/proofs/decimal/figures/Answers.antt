use native.Mathlib.Omega.{arith}
use borrow.Author.Tests.{not-true, not-false}
use Rattle.cases_tokens.proofs.DecimalLaws.{numbers-none, numbers_more, numbers-all, numbers-not}
use Rattle.cases_tokens.proofs.decimal.figures.Goals as goal

pub loop-k-init : goal.loop-k-init
loop-k-init c = record { inside = omega arith; numbers = numbers-none _ _ }

pub returns-then-not-is_number : goal.returns-then-not-is_number
returns-then-not-is_number c = numbers-not _ _ _ _ _ (omega arith) (omega arith) c.is_number.ensures (not-true _ c.if-not-is_number.true-raw)

pub loop-k-preserved : goal.loop-k-preserved
loop-k-preserved c = record {
  inside = omega arith;
  numbers = numbers_more _ _ _ _ (omega arith) c.loop-k.invariant.numbers c.is_number.ensures (not-false _ c.if-not-is_number.false-raw);
}

pub returns : goal.returns
returns c = numbers-all _ _ _ _ c.loop-k.invariant.numbers (omega arith)
