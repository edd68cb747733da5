use native.Mathlib.Omega.{arith}
use Rattle.cases_script.proofs.LineWordsLaws.{words-all, word-found, word_next, word_none}
use Rattle.cases_script.proofs.line_words.number.Goals as goal

pub loop-k-init : goal.loop-k-init
loop-k-init c = words-all _ _ _

pub returns-then-same : goal.returns-then-same
returns-then-same c = record {
  value = word-found _ _ _ _ c.loop-k.invariant c.loop-k-test.true c.token.ensures c.same.ensures c.if-same.true;
  upper_bound = omega arith;
}

pub loop-k-preserved : goal.loop-k-preserved
loop-k-preserved c = word_next _ _ _ _ c.loop-k.invariant c.loop-k-test.true c.token.ensures c.same.ensures c.if-same.false

pub returns : goal.returns
returns c = record { value = word_none _ _ _ _ c.loop-k.invariant (omega arith); upper_bound = omega arith }
