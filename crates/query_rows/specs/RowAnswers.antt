-- What row, row_length and row_count return.
-- docs/FORMAT.md: "Row".
use Rattle.std.specs.Prelude.{List, ℕ, ◌+◌, ◌-◌, ◌≤◌, ◌<◌, Bool, cond, not, ◌&&◌, ◌≡◌, ◌⊎◌, length, ltb, eqb, Result, Ok, Err}
use Rattle.format.specs.TreeReading.{check_result, ask, or_next, header_result, text_of}
use Rattle.format.specs.Answers.{Reply, figures, refusal, Allowed, Answer, unless, Is, RowBy, row_refusal, row_most, byte_answer, is_counted, number_of_byte, total}
use Rattle.refusals.specs.declared.Refusal.{Refusal}
use Rattle.refusals.specs.Refusals.{refusal_number}
use Rattle.text.specs.Text.{row_of}
use Rattle.format.specs.Layout as at

-- The answer of row by its refusal and length (docs/FORMAT.md, "Row").

-- The bytes of the row, or the number of the question that refuses.
abbrev pub row_reply : Result ℕ Refusal → Reply
row_reply (Ok size) = figures size 0
row_reply (Err e) = refusal (refusal_number e)

-- What a row answers that is settled where `ok` is 0: row's own is the check's number, that of a row with a guide the guide's.
abbrev pub RowAnswerBy : (t : List ℕ) (ok q : ℕ) (buffer : List ℕ) → Result ℕ Refusal → List ℕ → Type 0
RowAnswerBy t ok q buffer r after = Allowed row_reply (λ s. RowBy t ok q buffer s.number s.value after) r

-- The answer of row without a guide.
abbrev pub IsRowAnswer : (t : List ℕ) (q : ℕ) (buffer : List ℕ) → Result ℕ Refusal → List ℕ → Type 0
IsRowAnswer t = RowAnswerBy t (check_result t)

-- What row_length and row_count return for any bytes given as a tree.
-- docs/FORMAT.md: "Figures and sizes", "Unspecified results".

module _ (t : List ℕ) where
  -- The length of row q: one answer if a question of row refuses or the tree is valid; else at most `row_most`, or 14.
  pub record RowLengthAnswers (q number size : ℕ) : Type 0 where
    pub asked : 0 < row_refusal t q → (number ≡ row_refusal t q) × (size ≡ 0)
    pub accepted : row_refusal t q ≡ 0 → check_result t ≡ 0 → (number ≡ 0) × (size ≡ length (row_of (text_of t) q))
    pub free : row_refusal t q ≡ 0 → (check_result t ≡ 0 → ⊥) → ((number ≡ 0) × (size ≤ row_most t q)) ⊎ ((number ≡ 14) × (size ≡ 0))

  -- The refusal of row_count: questions 5 to 7, then 11 for byte 10, then that of the last byte of the text, if there is one.
  unfoldable pub row_count_refusal : ℕ
  row_count_refusal =
      let last = cond (eqb (at.text_length t) 0) 0 (byte_answer t (at.text_length t - 1)).number in
      or_next (header_result t) (ask 11 (is_counted t 10) last)

  -- Whether the last byte of the text is not 10.
  unfoldable pub last_open : Bool
  last_open = ltb 0 (at.text_length t) && not (eqb 10 (byte_answer t (at.text_length t - 1)).value)

  -- The number of rows: the total of byte 10, and one more if the last row has no byte 10.
  unfoldable pub row_count_answer : Answer
  row_count_answer = unless row_count_refusal (record { number = 0; value = total t (number_of_byte t 10) + cond last_open 1 0; entered = 0 })

-- The answers by their numbers and figures.
abbrev pub row_length_reply : Result ℕ Refusal → Reply
row_length_reply (Ok n) = figures n 0
row_length_reply (Err e) = refusal (refusal_number e)

abbrev pub IsRowLengthAnswer : (t : List ℕ) (q : ℕ) → Result ℕ Refusal → Type 0
IsRowLengthAnswer t q = Allowed row_length_reply (λ s. RowLengthAnswers t q s.number s.value)

abbrev pub row_count_reply : Result ℕ Refusal → Reply
row_count_reply (Ok n) = figures n 0
row_count_reply (Err e) = refusal (refusal_number e)

abbrev pub IsRowCountAnswer : (t : List ℕ) → Result ℕ Refusal → Type 0
IsRowCountAnswer t = Is row_count_reply (row_count_answer t)
