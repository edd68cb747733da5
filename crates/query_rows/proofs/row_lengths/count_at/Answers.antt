use native.Mathlib.Omega.{arith}
use Rattle.query_rows.proofs.RowLengthsLaws as laws
use Rattle.query_rows.proofs.row_lengths.count_at.Goals as goal

pub returns-then-h-number : goal.returns-then-h-number
returns-then-h-number c = laws.count-11 _ _ c.requires _ c.number_of-number.ensures.0 c.if-h-number.true

pub returns-then-h-eq0 : goal.returns-then-h-eq0
returns-then-h-eq0 c = laws.count-empty _ _ c.requires
    _ c.number_of-number.ensures.0 c.if-h-number.false _ c.total-tens.ensures c.if-h-eq0.true

pub returns-in_default : goal.returns-in_default
returns-in_default c = laws.count-broken _ _ c.requires _ c.number_of-number.ensures.0
    c.if-h-number.false _ c.total-tens.ensures c.if-h-eq0.false
    _ c.byte_at-answer.ensures _ c.unwrap_err.ensures

pub returns-then-value-eq10 : goal.returns-then-value-eq10
returns-then-value-eq10 c = laws.count-ended _ _ c.requires
    _ c.number_of-number.ensures.0 c.if-h-number.false _ c.total-tens.ensures
    c.if-h-eq0.false _ c.byte_at-answer.ensures _ _ c.in-Ok.is c.if-value-eq10.true

pub overflow_add-result : goal.overflow_add-result
overflow_add-result c = let fits = laws.rows_fit c.args.t.now (λ k. (c.shared_slice_known-1.given k).fits) _ _ c.total-tens.ensures in omega (arith, fits)

pub returns : goal.returns
returns c = laws.count-open _ _ c.requires
    _ c.number_of-number.ensures.0 c.if-h-number.false _ c.total-tens.ensures
    c.if-h-eq0.false _ c.byte_at-answer.ensures _ _ c.in-Ok.is c.if-value-eq10.false
