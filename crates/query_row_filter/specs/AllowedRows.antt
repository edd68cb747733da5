-- What a search for the next selected row may return.
-- docs/FORMAT.md: "Keys".
use Rattle.std.specs.Prelude.{List, [], ◌∷◌, Bool, ◌≡◌, ◌⊎◌, ℕ, ◌+◌, ◌≤◌, ◌<◌, drop, Result, Ok, Err}
use Rattle.text.specs.Text.{rows_of}
use Rattle.format.specs.Layout as at
use Rattle.format.specs.TreeReading.{text_of, ask, asks, or_next, header_result}
use Rattle.format.specs.Answers.{is_counted, number_of_byte, total}
use Rattle.row_filter.specs.SelectedRows.{NextRowOutcome, first_selected, next_outcome}
use Rattle.refusals.specs.declared.Refusal.{Refusal}
use Rattle.refusals.specs.Refusals.{refusal_number}
use Rattle.query_row_filter.specs.declared.NextRow.{NextRow}
use Rattle.query_row_filter.specs.declared.NextRow.TheVariants.{Row, Nothing}

-- The outcomes that a search for the next selected row may have, for any bytes given as a tree and as a guide: one outcome if a question refuses or both are
-- valid, else any of those that the format leaves unspecified.
-- docs/FORMAT.md: "Keys", "Unspecified results".

-- A refusal; the mark is unchanged.
abbrev pub refused_at : ℕ → ℕ → NextRowOutcome
refused_at refusal mark = record { refusal = refusal; row = 0; mark = mark }

module _ (t : List ℕ) where
  -- Question 11 for byte 10.
  unfoldable pub newline_refusal : ℕ
  newline_refusal = asks ((11, is_counted t 10) ∷ [])

  -- The refusal before the walk: questions 5 to 7, then the question of the query under its number, then 11.
  unfoldable pub query_refusal : ℕ → Bool → ℕ
  query_refusal refusal ok = or_next (header_result t) (ask refusal ok newline_refusal)

  -- No accepted tree has a row number above this one, the total of byte 10 plus one.
  abbrev pub max_rows : ℕ
  max_rows = total t (number_of_byte t 10) + 1

  -- The row is the first selected one if row mark + 1 begins at some place of the text, by the bytes that the paths give.
  pub record FoundFrom (selected : List ℕ → Bool) (mark row : ℕ) : Type 0 where
    pub start : ℕ
    pub start-in : start ≤ at.text_length t
    pub row_is : row ≡ first_selected selected (mark + 1) (rows_of (drop start (text_of t)))

  -- The outcomes on a refused tree: 14, with the mark unchanged; no row, with the mark unchanged or moved forward up to `max_rows`; or a row after the mark
  -- and up to `max_rows`, found from some place on, with the mark on it.
  abbrev pub FreeOutcome : (List ℕ → Bool) → ℕ → NextRowOutcome → Type 0
  FreeOutcome selected mark s =
      (s ≡ refused_at 14 mark)
      ⊎ (((s.refusal ≡ 0) × (s.row ≡ 0) × (mark ≤ s.mark) × ((s.mark ≡ mark) ⊎ (s.mark ≤ max_rows)))
      ⊎ ((s.refusal ≡ 0) × (mark < s.row) × (s.row ≤ max_rows) × (s.mark ≡ s.row) × FoundFrom selected mark s.row))

-- The allowed outcomes. `refusal` is that of the questions before the walk, 0 if they all pass. `ok` is 0 for a valid tree: without a guide it is the result
-- of the check, with a guide that of checking the guide.
pub record AllowedOutcome (t : List ℕ) (ok refusal : ℕ) (selected : List ℕ → Bool) (mark : ℕ) (s : NextRowOutcome) : Type 0 where
  pub asked : 0 < refusal → s ≡ refused_at refusal mark
  pub accepted : refusal ≡ 0 → ok ≡ 0 → s ≡ next_outcome selected (rows_of (text_of t)) mark
  pub free : refusal ≡ 0 → (ok ≡ 0 → ⊥) → FreeOutcome t selected mark s

-- The answers that a search for the next selected row may return, and the mark after each.

-- The outcome of an answer to a search from a mark.
abbrev pub outcome_of : ℕ → Result NextRow Refusal → NextRowOutcome
outcome_of mark (Ok (Row q)) = record { refusal = 0; row = q; mark = q }
outcome_of mark (Ok (Nothing m)) = record { refusal = 0; row = 0; mark = m }
outcome_of mark (Err e) = refused_at (refusal_number e) mark

-- A returned row and a refusal are not 0.
abbrev pub Numbered : Result NextRow Refusal → Type 0
Numbered (Ok (Row q)) = 1 ≤ q
Numbered (Ok (Nothing m)) = Unit {0}
Numbered (Err e) = 1 ≤ refusal_number e

-- An allowed answer to a search from a mark.
pub record AllowedAnswer (t : List ℕ) (ok refusal : ℕ) (selected : List ℕ → Bool) (mark : ℕ) (r : Result NextRow Refusal) : Type 0 where
  pub answers : AllowedOutcome t ok refusal selected mark (outcome_of mark r)
  pub numbered : Numbered r

-- An allowed answer to a search from the mark `before`, and the mark `after` it.
pub record MarkMoved (t : List ℕ) (ok refusal : ℕ) (selected : List ℕ → Bool) (before : ℕ) (r : Result NextRow Refusal) (after : ℕ) : Type 0 where
  pub answer : AllowedAnswer t ok refusal selected before r
  pub mark_is : after ≡ (outcome_of before r).mark
