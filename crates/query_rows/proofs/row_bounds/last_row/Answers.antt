use native.Mathlib.Omega.{arith}
use Rattle.query_rows.proofs.RowBoundsLaws as laws
use Rattle.query_rows.proofs.row_bounds.last_row.Goals as goal

pub overflow_sub-h : goal.overflow_sub-h
overflow_sub-h c = omega (arith, laws.last_some _ _ c.requires.0 _ c.requires.1)

pub returns-in_default : goal.returns-in_default
returns-in_default c = laws.last-broken _ _ c.requires.0 _ c.requires.1
    _ (laws.settled-sound _ _ _) _ c.byte_at-answer.ensures _ c.unwrap_err.ensures

pub returns-then-value-eq10 : goal.returns-then-value-eq10
returns-then-value-eq10 c = laws.last-ten
    _ _ c.requires.0 _ c.requires.1 _ (laws.settled-sound _ _ _) _ c.byte_at-answer.ensures _ _ c.in-Ok.is c.if-value-eq10.true

pub returns-then-q-eq1 : goal.returns-then-q-eq1
returns-then-q-eq1 c = laws.last-whole _ _ c.requires.0 _ c.requires.1 _ (laws.settled-sound _ _ _) _ c.byte_at-answer.ensures _ _ c.in-Ok.is
    c.if-value-eq10.false c.if-q-eq1.true _ (c.no_run.ensures.length_value, c.no_run.ensures.from_value)

pub overflow_sub-q : goal.overflow_sub-q
overflow_sub-q c = omega (arith, laws.last-low _ _ c.requires.0 _ c.requires.1)

pub find_newline-found-requires : goal.find_newline-found-requires
find_newline-found-requires c = let f = laws.last-find _ _ c.requires.0 _ c.requires.1 _ c.requires.2 c.if-q-eq1.false in
    (c.requires.0, c.requires.2, c.requires.3, f.0, f.1)

pub returns-in_default-found : goal.returns-in_default-found
returns-in_default-found c = laws.last-no-start _ _ c.requires.0 _ c.requires.1
    _ (laws.settled-sound _ _ _) _ c.byte_at-answer.ensures _ _ c.in-Ok.is c.if-value-eq10.false
    c.if-q-eq1.false _ c.find_newline-found.ensures.answers _ c.unwrap_err-in_default-found.ensures

pub overflow_add-result : goal.overflow_add-result
overflow_add-result c = omega (
  arith,
  laws.last-past _ _ c.requires.0 _ c.requires.1
      _ (laws.settled-sound _ _ _) _ c.byte_at-answer.ensures _ _ c.in-Ok.is
      c.if-value-eq10.false c.if-q-eq1.false _ c.find_newline-found.ensures.answers _ _ c.in-Ok-found.is,
)

pub overflow_add-result-2 : goal.overflow_add-result-2
overflow_add-result-2 c = omega (
  arith,
  laws.last-past _ _ c.requires.0 _ c.requires.1
      _ (laws.settled-sound _ _ _) _ c.byte_at-answer.ensures _ _ c.in-Ok.is
      c.if-value-eq10.false c.if-q-eq1.false _ c.find_newline-found.ensures.answers _ _ c.in-Ok-found.is,
)

pub overflow_sub-result : goal.overflow_sub-result
overflow_sub-result c = omega (
  arith,
  laws.last-past _ _ c.requires.0 _ c.requires.1
      _ (laws.settled-sound _ _ _) _ c.byte_at-answer.ensures _ _ c.in-Ok.is
      c.if-value-eq10.false c.if-q-eq1.false _ c.find_newline-found.ensures.answers _ _ c.in-Ok-found.is,
)

pub returns : goal.returns
returns c = laws.last-from _ _ c.requires.0 _ c.requires.1
    _ (laws.settled-sound _ _ _) _ c.byte_at-answer.ensures _ _ c.in-Ok.is
    c.if-value-eq10.false c.if-q-eq1.false _ c.find_newline-found.ensures.answers _ _ c.in-Ok-found.is
    _ (c.no_run-2.ensures.length_value, c.no_run-2.ensures.from_value)
