use mathlib.Core.Path.{sym, ◌∙◌}
use Rattle.refusals.specs.RefusalsLaws.{passed-on}
use Rattle.query_row_filter.proofs.RowsAfterLaws.{limit-row, limit-none, limit-refused}
use Rattle.query_row_filter.proofs.rows_after.limit.Goals as goal

pub returns-then-past : goal.returns-then-past
returns-then-past c = limit-row _ _ _ _ _ c.in_ok-found.was c.in-Row.is (sym c.past.ensures ∙ c.if-past.true)

pub returns-then-past-2 : goal.returns-then-past-2
returns-then-past-2 c = limit-none _ _ _ _ _ c.in_ok-found.was c.in-Nothing.is (sym c.past-in-Nothing.ensures ∙ c.if-past-2.true)

pub returns-else-past : goal.returns-else-past
returns-else-past c = limit-row _ _ _ _ _ c.in_ok-found.was c.in-Row.is (sym c.past.ensures ∙ c.if-past.false)

pub returns-else-past-2 : goal.returns-else-past-2
returns-else-past-2 c = limit-none _ _ _ _ _ c.in_ok-found.was c.in-Nothing.is (sym c.past-in-Nothing.ensures ∙ c.if-past-2.false)

pub returns-in_err-found : goal.returns-in_err-found
returns-in_err-found c = rw (passed-on _ _ c.from_residual.ensures.1) (limit-refused _ _ _ c.in_err-found.was)
