use mathlib.Core.Path.{◌≡◌}
use lib.ListN.{drop}
use Rattle.cases_tokens.specs.Decimals.{number_from, number_of}
use Rattle.cases_tokens.proofs.decimal.read_number.Given as goal

abbrev pub invariant-loop-digit : goal.invariant-loop-digit
invariant-loop-digit l = number_from (drop l.digit-index l.word) l.value ≡ number_of l.word
