-- What row_by_columns returns for any bytes given as a tree, and what the caller's buffer contains afterwards.
-- docs/FORMAT.md: "Columns before rows".
use Rattle.std.specs.Prelude.{List, [], ◌∷◌, ◌++◌, Bool, cond, ℕ, ◌+◌, ◌*◌, ◌/◌, length, drop, replicate, ltb, leb, eqb, Result}
use Rattle.refusals.specs.declared.Refusal.{Refusal}
use Rattle.text.specs.Text.{tabulate, all_below}
use Rattle.columns.specs.Columns.{width_ok}
use Rattle.format.specs.Layout as at
use Rattle.format.specs.TreeReading.{asks, or_next, header_result}
use Rattle.format.specs.Answers.{Answer, unless, Is, byte_answer}
use Rattle.query_access.specs.ReadAnswers.{span_reply}

module _ (t : List ℕ) (w a : ℕ) where
  -- The place of column b of row a.
  unfoldable pub cell : ℕ → ℕ
  cell b = b * (at.text_length t / w) + a

  -- Whether every place of row a has a path.
  unfoldable pub cells_hold : Bool
  cells_hold = all_below w (λ b. eqb (byte_answer t (cell b)).number 0)

  -- The refusal: 5 to 7, then 20, then 10 if there is no row a, then 13 and 14.
  unfoldable pub row_by_columns_refusal : ℕ → ℕ
  row_by_columns_refusal room =
      let n = at.text_length t in
      or_next (header_result t) (asks ((20, width_ok w n) ∷ (10, ltb a (n / w)) ∷ (13, leb w room) ∷ (14, cells_hold) ∷ []))

  -- The buffer afterwards: the row at its start; w zeros if refused with 14; unchanged for any other refusal.
  unfoldable pub row_by_columns_buffer : List ℕ → List ℕ
  row_by_columns_buffer buffer =
      let number = row_by_columns_refusal (length buffer) in
      cond (eqb number 0) (tabulate w (λ b. (byte_answer t (cell b)).value) ++ drop w buffer)
      (cond (eqb number 14) (replicate w 0 ++ drop w buffer) buffer)

  -- The width, or the refusal.
  unfoldable pub row_by_columns_answer : ℕ → Answer
  row_by_columns_answer room = unless (row_by_columns_refusal room) (record { number = 0; value = w; entered = 0 })

-- The answer of row_by_columns, with a buffer of `room` bytes.
abbrev pub IsRowByColumnsAnswer : (t : List ℕ) (w a room : ℕ) → Result (ℕ × ℕ) Refusal → Type 0
IsRowByColumnsAnswer t w a room = Is span_reply (row_by_columns_answer t w a room)
