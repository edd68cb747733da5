-- Examples, computed from the definitions. Bytes: 49 '1', 50 '2', 65 'A', 66 'B', 67 'C'.
use Rattle.std.specs.Prelude.{List, [], ◌∷◌, ◌≡◌, refl, ℕ}
use Rattle.text.specs.Text.{rows_of, same_list}
use Rattle.row_filter.specs.SelectedRows.{first_selected, next_selected, outcome_at, next_outcome, starts_with}
use Rattle.row_filter.specs.SelectedRowNumbers.{selected_from, selected_rows}
use Rattle.prefix_match.specs.PrefixRowNumbers.{rows_with_prefix, next_with_prefix}

-- AB1, 10, B, 10, AB, 13 10, CAB, 10, AB2
prefix-book : List ℕ
prefix-book = 65 ∷ 66 ∷ 49 ∷ 10 ∷ 66 ∷ 10 ∷ 65 ∷ 66 ∷ 13 ∷ 10 ∷ 67 ∷ 65 ∷ 66 ∷ 10 ∷ 65 ∷ 66 ∷ 50 ∷ []

pub record PrefixExamples : Type 0 where
  -- AB starts rows 1, 3 and 5; row 4 contains AB without starting with it
  all : rows_with_prefix (65 ∷ 66 ∷ []) (rows_of prefix-book) ≡ 1 ∷ 3 ∷ 5 ∷ []
  -- The last row, which has no ending byte 10.
  longer : rows_with_prefix (65 ∷ 66 ∷ 50 ∷ []) (rows_of prefix-book) ≡ 5 ∷ []
  -- A byte 13 directly before a byte 10 is not part of the row; at the text's end it is.
  thirteen : rows_with_prefix (65 ∷ 66 ∷ 13 ∷ []) (rows_of prefix-book) ≡ []
  thirteen_last : rows_with_prefix (65 ∷ 13 ∷ []) (rows_of (65 ∷ 13 ∷ [])) ≡ 1 ∷ []
  -- A prefix with a byte 10.
  ten : rows_with_prefix (66 ∷ 10 ∷ []) (rows_of prefix-book) ≡ []
  -- The search begins after the mark; none moves the mark to the number of rows, never back.
  after_1 : next_with_prefix (65 ∷ 66 ∷ []) (rows_of prefix-book) 1 ≡ 3
  from_3 : next_outcome (starts_with (65 ∷ 66 ∷ [])) (rows_of prefix-book) 3 ≡ record { refusal = 0; row = 5; mark = 5 }
  none : next_outcome (starts_with (66 ∷ [])) (rows_of prefix-book) 2 ≡ record { refusal = 0; row = 0; mark = 5 }
  beyond : next_outcome (starts_with (65 ∷ [])) (rows_of prefix-book) 7 ≡ record { refusal = 0; row = 0; mark = 7 }

pub prefix-examples : PrefixExamples
unfolding prefix-book rows_of same_list starts_with selected_from selected_rows rows_with_prefix first_selected next_selected next_with_prefix outcome_at next_outcome
prefix-examples = record {
  all = refl;
  longer = refl;
  thirteen = refl;
  thirteen_last = refl;
  ten = refl;
  after_1 = refl;
  from_3 = refl;
  none = refl;
  beyond = refl;
}
