use native.Mathlib.Omega.{arith}
use Rattle.query_rank.proofs.CountByHeaderLaws as laws
use Rattle.query_rank.proofs.count_by_header.settle.Goals as goal

pub returns-then-word-eq-BROKEN : goal.returns-then-word-eq-BROKEN
returns-then-word-eq-BROKEN c = (laws.answer-broken _ c.if-word-eq-BROKEN.true, omega arith)

pub returns : goal.returns
returns c = (laws.answer_word _ c.if-word-eq-BROKEN.false, tt)
