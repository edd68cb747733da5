use Rattle.cases_tokens.proofs.DecimalLaws.{is-number}
use Rattle.cases_tokens.proofs.decimal.is_number.Goals as goal

pub returns : goal.returns
returns c = is-number _ _ _ _ _ c.is_some.ensures c.read_number.ensures c.token.ensures
