-- The numbers of all rows that a predicate selects.
-- docs/FORMAT.md: "Keys".
use Rattle.std.specs.Prelude.{List, [], ◌∷◌, Bool, cond, ℕ, ◌+◌}

module _ (selected : List ℕ → Bool) where
  -- The numbers of the selected rows, where the list begins with row q.
  unfoldable pub selected_from : ℕ → List (List ℕ) → List ℕ
  selected_from q [] = []
  selected_from q (row ∷ rows) =
      let rest = selected_from (q + 1) rows in
      cond (selected row) (q ∷ rest) rest

  -- The numbers of all selected rows of a text, ascending.
  unfoldable pub selected_rows : List (List ℕ) → List ℕ
  selected_rows rows = selected_from 1 rows
