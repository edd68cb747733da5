use Rattle.cases_script.proofs.LineWordsLaws.{WordsLeft}
use Rattle.cases_script.proofs.line_words.number.Given as goal

abbrev pub invariant-loop-k : goal.invariant-loop-k
invariant-loop-k l = WordsLeft l.words l.word l.n l.k
