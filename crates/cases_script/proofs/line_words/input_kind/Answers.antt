use mathlib.Core.Path.{refl}
use borrow.Author.Rules.{rules}
use Rattle.cases_script.specs.LineWords.{input_kind}
use Rattle.cases_script.proofs.line_words.input_kind.Goals as goal

pub input_number-k-requires : goal.input_number-k-requires
unfolding input_kind
input_number-k-requires c = search rules

pub returns : goal.returns
unfolding input_kind
returns c = rw (← c.input_number-k.ensures.value) refl
