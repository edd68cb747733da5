-- The numbers of the rows that start with a prefix, and the next one after a mark.
-- docs/FORMAT.md: "Rows by prefix".
use Rattle.std.specs.Prelude.{List, ℕ}
use Rattle.row_filter.specs.SelectedRows.{next_selected, starts_with}
use Rattle.row_filter.specs.SelectedRowNumbers.{selected_rows}

-- The numbers of all rows that start with the prefix, ascending.
unfoldable pub rows_with_prefix : List ℕ → List (List ℕ) → List ℕ
rows_with_prefix prefix rows = selected_rows (starts_with prefix) rows

-- The first row after a mark that starts with the prefix; 0 if there is none.
unfoldable pub next_with_prefix : List ℕ → List (List ℕ) → ℕ → ℕ
next_with_prefix prefix rows mark = next_selected (starts_with prefix) rows mark
