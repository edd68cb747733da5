use borrow.Author.Rules.{rules}
use Rattle.cases_script.specs.LineWords.{input_number, input_words}
use Rattle.cases_script.proofs.line_words.input_number.Goals as goal

pub token-requires : goal.token-requires
unfolding input_number input_words
token-requires c = search rules

pub number-requires : goal.number-requires
unfolding input_number input_words
number-requires c = search rules

pub returns : goal.returns
unfolding input_number input_words
returns c = record { value = rw c.token.ensures at c.number.ensures.value; upper_bound = c.number.ensures.upper_bound }
