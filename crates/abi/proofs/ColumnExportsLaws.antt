-- A row read by columns, as a number.
use Rattle.std.specs.Prelude.{Result, Ok, Err}
use Rattle.refusals.specs.declared.Refusal.{Refusal}
use Rattle.refusals.specs.Refusals.{refusal_number}
use mathlib.Core.List.{List}
use mathlib.Core.Path.{◌≡◌, refl, sym, ap, ◌∙◌}
use Prim.Native.Nat.{ℕ}
use Rattle.format.specs.Answers.{Answer, replied}
use Rattle.format.specs.AnswerLaws.{unless-number}
use Rattle.query_access.specs.ReadAnswers.{span_reply}
use Rattle.query_columns.specs.ColumnRows.{row_by_columns_refusal, row_by_columns_answer, IsRowByColumnsAnswer}

module _ (t : List ℕ) (w a room : ℕ) (r : Result (ℕ × ℕ) Refusal) (k : IsRowByColumnsAnswer t w a room r) where
  number_is : (replied (span_reply r)).number ≡ row_by_columns_refusal t w a room
  unfolding row_by_columns_answer
  number_is = ap (λ (s : Answer). s.number) k.answers ∙ unless-number (row_by_columns_refusal t w a room) _ refl

  pub column-answered : (n entered : ℕ) → r ≡ Ok (n, entered) → 0 ≡ row_by_columns_refusal t w a room
  column-answered n entered e = sym (ap (λ (x : Result (ℕ × ℕ) Refusal). (replied (span_reply x)).number) e) ∙ number_is

  pub column-refused : (q : Refusal) → r ≡ Err q → refusal_number q ≡ row_by_columns_refusal t w a room
  column-refused q e = sym (ap (λ (x : Result (ℕ × ℕ) Refusal). (replied (span_reply x)).number) e) ∙ number_is
