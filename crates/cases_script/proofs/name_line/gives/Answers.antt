use borrow.Author.Tests.{not-true, not-false}
use Rattle.cases_script.proofs.NameLineLaws.{gives_other, gives_same}
use Rattle.cases_script.proofs.name_line.gives.Goals as goal

pub returns-then-not-same : goal.returns-then-not-same
returns-then-not-same c = gives_other _ _ _ _ _ c.until-line.ensures c.token.ensures c.same.ensures (not-true _ c.if-not-same.true-raw)

pub returns : goal.returns
returns c = gives_same _ _ _ _ _ c.until-line.ensures
    c.token.ensures c.same.ensures _ (not-false _ c.if-not-same.false-raw) c.gives_bytes.ensures
