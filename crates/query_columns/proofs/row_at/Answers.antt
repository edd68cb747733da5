use mathlib.Core.Path.{refl, sym, ◌∙◌}
use borrow.Author.Tests.{not-true, not-false}
use Rattle.columns.specs.ColumnLaws.{width_low}
use Rattle.query_columns.proofs.ColumnRowLaws as laws
use Rattle.query_columns.proofs.row_at.Goals as goal

pub returns-then-not-divides : goal.returns-then-not-divides
returns-then-not-divides c = let both = laws.read-width _ _ _ _ _ c.requires (sym c.divides.ensures ∙ not-true _ c.if-not-divides.true-raw) in record { row_by_columns_answer = both.0; buffer_after = both.1 }

pub nonzero_div-rows : goal.nonzero_div-rows
nonzero_div-rows c = width_low _ _ (sym c.divides.ensures ∙ not-false _ c.if-not-divides.false-raw)

pub returns-then-rows-a : goal.returns-then-rows-a
returns-then-rows-a c = let both = laws.read_past _ _ _ _ _ c.requires (sym c.divides.ensures ∙ not-false _ c.if-not-divides.false-raw) c.if-rows-a.true in record { row_by_columns_answer = both.0; buffer_after = both.1 }

pub returns-then-buffer-width : goal.returns-then-buffer-width
returns-then-buffer-width c = let both = laws.read_short _ _ _ _ _ c.requires (sym c.divides.ensures ∙ not-false _ c.if-not-divides.false-raw) c.if-rows-a.false c.if-buffer-width.true in record { row_by_columns_answer = both.0; buffer_after = both.1 }

pub copy-requires : goal.copy-requires
copy-requires c = record {
  header = c.requires;
  width = sym c.divides.ensures ∙ not-false _ c.if-not-divides.false-raw;
  rows_are = refl;
  below = c.if-rows-a.false;
  fits = c.if-buffer-width.false;
}
