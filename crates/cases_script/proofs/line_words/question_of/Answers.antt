use mathlib.Core.Path.{refl}
use borrow.Author.Rules.{rules}
use Rattle.cases_script.specs.LineWords.{question_of, question_words}
use Rattle.cases_script.proofs.line_words.question_of.Goals as goal

pub token-requires : goal.token-requires
unfolding question_of question_words
token-requires c = search rules

pub number-k-requires : goal.number-k-requires
unfolding question_of question_words
number-k-requires c = search rules

pub returns : goal.returns
unfolding question_of question_words
returns c = rw (← c.token.ensures, ← c.number-k.ensures.value) refl
