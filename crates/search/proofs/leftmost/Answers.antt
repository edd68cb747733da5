use native.Mathlib.Omega.{arith}
use Rattle.search.proofs.Usable.{ready}
use Rattle.search.proofs.AnswerCases.{answers-outside, answers_at}
use Rattle.search.proofs.leftmost.Goals as goal

pub returns-then-text-start : goal.returns-then-text-start
returns-then-text-start c = answers-outside _ _ _ c.if-text-start.true

pub scan-place-requires : goal.scan-place-requires
scan-place-requires c = (omega arith, rw c.new.ensures (ready _ _))

pub returns : goal.returns
returns c = answers_at _ _ _ _ c.if-text-start.false c.scan-place.ensures
