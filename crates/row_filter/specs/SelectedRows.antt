-- Rows selected by a predicate on their bytes: the next one after a mark.
-- docs/FORMAT.md: "Keys".
use Rattle.std.specs.Prelude.{List, [], ◌∷◌, Bool, cond, ℕ, ◌+◌, length, drop, take, leb, eqb}
use Rattle.text.specs.Text.{same_list}

-- The outcome of a search: the refusal (0 for none), the row (0 for none), and the new mark.
pub record NextRowOutcome : Type 0 where
  pub refusal : ℕ
  pub row : ℕ
  pub mark : ℕ

module _ (selected : List ℕ → Bool) where
  -- The first selected row, where the list begins with row q; 0 if there is none.
  unfoldable pub first_selected : ℕ → List (List ℕ) → ℕ
  first_selected q [] = 0
  first_selected q (row ∷ rows) =
      let rest = first_selected (q + 1) rows in
      cond (selected row) q rest

  -- The first selected row after a mark; 0 if there is none.
  unfoldable pub next_selected : List (List ℕ) → ℕ → ℕ
  next_selected rows mark = first_selected (mark + 1) (drop mark rows)

-- Row q moves the mark to q; without a row (q = 0) the mark moves to the number of rows, never back.
unfoldable pub outcome_at : ℕ → ℕ → ℕ → NextRowOutcome
outcome_at q rows mark =
    cond (eqb q 0) (record { refusal = 0; row = 0; mark = cond (leb mark rows) rows mark })
    (record { refusal = 0; row = q; mark = q })

-- The outcome of the search for the next selected row.
unfoldable pub next_outcome : (List ℕ → Bool) → List (List ℕ) → ℕ → NextRowOutcome
next_outcome selected rows mark = outcome_at (next_selected selected rows mark) (length rows) mark

-- Whether the first bytes of a row are the prefix.
unfoldable pub starts_with : List ℕ → List ℕ → Bool
starts_with prefix row = same_list (take (length prefix) row) prefix
