use native.Mathlib.Omega.{arith}
use Rattle.refusals.specs.RefusalsLaws.{passed-on}
use Rattle.query_rows.proofs.RowBoundsLaws as laws
use Rattle.query_rows.proofs.row_bounds.terminated_row.Goals as goal

pub row_start-requires : goal.row_start-requires
row_start-requires c = c.requires

-- The row has no start.
pub returns-in_err-start : goal.returns-in_err-start
returns-in_err-start c = rw (passed-on _ _ c.from_residual.ensures.1) (laws.edges-no-start _ _ (laws.settled-sound _ _ _) _ _
    c.row_start.ensures _ c.in_err-start.was)

pub next_newline-end-requires : goal.next_newline-end-requires
next_newline-end-requires c =
    (c.requires.0, omega (arith, c.requires.0.length_is, laws.start-within _ _ (laws.settled-sound _ _ _) _ _ c.row_start.ensures _ c.in_ok-start.was))

-- No newline ends it.
pub returns-in_default : goal.returns-in_default
returns-in_default c =
    laws.edges-no-end _ _ (laws.settled-sound _ _ _) _ _ c.row_start.ensures _ c.in_ok-start.was
    _ c.next_newline-end.ensures c.in_default.is

pub overflow_sub-place : goal.overflow_sub-place
overflow_sub-place c =
    omega (
      arith,
      laws.end-past _ _ (laws.settled-sound _ _ _) _ _ c.row_start.ensures _ c.in_ok-start.was
          _ c.next_newline-end.ensures _ _ _ c.in-Some.is,
    )

pub returns : goal.returns
returns c =
    laws.edges-trimmed _ _ (laws.settled-sound _ _ _) _ _ c.row_start.ensures _ c.in_ok-start.was
    _ c.next_newline-end.ensures _ _ _ c.in-Some.is _ c.strip_cr.ensures
