use mathlib.Core.Path.{refl}
use native.Mathlib.Omega.{arith}
use Rattle.refusals.specs.RefusalsLaws.{passed-on}
use Rattle.query_rows.proofs.RowBoundsLaws as laws
use Rattle.query_rows.proofs.row_bounds.row_start.Goals as goal

-- The first row.
pub returns-then-q-eq1 : goal.returns-then-q-eq1
returns-then-q-eq1 c = laws.start_first _ _ _ _ c.requires.0 _ c.requires.1 c.requires.2 _ refl (λ z. omega (arith, c.requires.3)) c.requires.4 c.if-q-eq1.true

pub overflow_sub-q : goal.overflow_sub-q
overflow_sub-q c = omega (arith, c.requires.3)

pub find_newline-requires : goal.find_newline-requires
find_newline-requires c = (c.requires.0, c.requires.1, c.requires.2, omega (arith, c.requires.3, c.if-q-eq1.false), omega (arith, c.requires.4))

-- The find is refused.
pub returns-in_err-before : goal.returns-in_err-before
returns-in_err-before c = rw (passed-on _ _ c.from_residual.ensures.1)
    (laws.start-refused _ _ _ _ c.requires.0 _ c.requires.1 c.requires.2 _ refl (λ z. omega (arith, c.requires.3)) c.requires.4 c.if-q-eq1.false (laws.settled-sound _ _ _)
    _ c.find_newline.ensures.answers _ c.in_err-before.was)

pub overflow_add-result : goal.overflow_add-result
overflow_add-result c = omega (
  arith,
  laws.before-below _ _ _ _ c.requires.0 _ c.requires.1 c.requires.2 _ refl (λ z. omega (arith, c.requires.3)) c.requires.4 c.if-q-eq1.false (laws.settled-sound _ _ _)
      _ c.find_newline.ensures.answers _ _ c.in_ok-before.was,
)

-- Past the newline that was found.
pub returns : goal.returns
returns c = laws.start-later _ _ _ _ c.requires.0 _ c.requires.1 c.requires.2 _ refl (λ z. omega (arith, c.requires.3)) c.requires.4 c.if-q-eq1.false (laws.settled-sound _ _ _)
    _ c.find_newline.ensures.answers _ _ c.in_ok-before.was
