-- A row's length, as a number.
use Rattle.std.specs.Prelude.{Result, Ok, Err}
use Rattle.refusals.specs.declared.Refusal.{Refusal}
use Rattle.refusals.specs.Refusals.{refusal_number}
use mathlib.Core.List.{List}
use mathlib.Core.Path.{◌≡◌, subst}
use Prim.Native.Nat.{ℕ}
use Rattle.format.specs.Answers.{replied}
use Rattle.query_rows.specs.RowAnswers.{RowLengthAnswers, row_length_reply}

module _ (t : List ℕ) (q : ℕ) (r : Result ℕ Refusal) (k : RowLengthAnswers t q (replied (row_length_reply r)).number (replied (row_length_reply r)).value) where
  pub length-answered : (n : ℕ) → r ≡ Ok n → RowLengthAnswers t q 0 n
  length-answered n e = subst (λ (x : Result ℕ Refusal). RowLengthAnswers t q (replied (row_length_reply x)).number (replied (row_length_reply x)).value) e k

  pub length-refused : (number : Refusal) → r ≡ Err number → RowLengthAnswers t q (refusal_number number) 0
  length-refused number e = subst (λ (x : Result ℕ Refusal). RowLengthAnswers t q (replied (row_length_reply x)).number
      (replied (row_length_reply x)).value) e k
