use native.Mathlib.Omega.{arith}
use Rattle.format.specs.FindAnswerLaws.{select-lets}
use Rattle.query_select.proofs.FoundLaws.{refused-not, place_is, place-in-text}
use Rattle.query_rows.proofs.RowBoundsLaws.{settled-sound}
use Rattle.query_row_filter.proofs.RowsAfterLaws.{start_first, start-broken, start-past, start-asked}
use Rattle.query_row_filter.proofs.rows_after.start.Goals as goal

pub returns-then-mark-eq0 : goal.returns-then-mark-eq0
returns-then-mark-eq0 c = start_first _ _ _ c.if-mark-eq0.true

pub find_newline-found-requires : goal.find_newline-found-requires
find_newline-found-requires c = (c.requires.0, c.requires.3, c.requires.4, omega (arith, c.if-mark-eq0.false), rw c.requires.3 c.requires.2)

pub returns-in_default : goal.returns-in_default
returns-in_default c = let a = start-asked _ _ _ c.requires.0 c.requires.1 c.if-mark-eq0.false c.requires.2 in
    start-broken _ _ _ (refused-not _ _ 10 _ (settled-sound _ _ _) _ c.find_newline-found.ensures.answers _ c.in_default.is (select-lets _ _ _ a))

pub overflow_add-result : goal.overflow_add-result
overflow_add-result c = omega (
  arith,
  place-in-text _ _ 10 _ (settled-sound _ _ _) _ c.find_newline-found.ensures.answers _ _ c.in-Ok.is,
  c.requires.0.facts.bounds.text_high,
)

pub returns : goal.returns
returns c = let a = start-asked _ _ _ c.requires.0 c.requires.1 c.if-mark-eq0.false c.requires.2 in
    start-past _ _ _ _ (settled-sound _ _ _) a (place-in-text _ _ 10 _ (settled-sound _ _ _) _ c.find_newline-found.ensures.answers _ _ c.in-Ok.is)
    (place_is _ _ 10 _ (settled-sound _ _ _) _ c.find_newline-found.ensures.answers _ _ c.in-Ok.is)
