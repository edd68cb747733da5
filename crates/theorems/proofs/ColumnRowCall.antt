-- row_by_columns(tree, width, a, buffer): row a, from 0, of the text whose rearrangement the tree is of: all its bytes, copied.
use Rattle.std.specs.Prelude.{Ok, Err}
use Rattle.refusals.specs.declared.Refusal.TheVariants.{PathBroken}
use Rattle.refusals.specs.Refusals.{refusal_number}
use Rattle.refusals.specs.RefusalsLaws.{one-number}
use mathlib.Core.List.{List, [], ◌∷◌, ◌++◌}
use mathlib.Core.Bool.{Bool}
use mathlib.Core.Path.{◌≡◌, ◌∙◌, refl}
use Prim.Native.Nat.{ℕ, ◌≤◌, ◌/◌}
use native.Mathlib.Omega.{arith}
use contract.Lifetimes.{Lfts}
use lib.ListN.{length, drop, replicate}
use lib.Dec.{leb, ltb}
use lib.Seq.{drop_at}
use borrow.Author.Tests.{eq-eqb, ne_eqb, leb-true}
use Rattle.text.specs.ListLaws.{length-tabulate}
use Rattle.text.specs.Text.{tabulate}
use Rattle.format.specs.Layout as at
use Rattle.format.specs.TreeReading.{text_of, header_result, check_result, asks}
use Rattle.format.specs.CheckResultLaws.{accepted-header}
use Rattle.format.specs.Answers.{byte_answer}
use Rattle.format.specs.AnswerLaws.{next-passes, asks-pass}
use Rattle.columns.specs.Columns.{width_ok}
use Rattle.query_columns.proofs.Theorems as columns
use Rattle.query_columns.specs.ColumnRows.{cell, cells_hold, row_by_columns_refusal, row_by_columns_answer, row_by_columns_buffer}
use Rattle.theorems.specs.CallContracts.{Refusal}
use Rattle.theorems.specs.Promises.{ColumnAnswers, ColumnRefuses}
use Rattle.theorems.specs.PublicFunctions.{row_by_columns_function}
use Rattle.theorems.proofs.AcceptedTree.{text-size}
use Rattle.theorems.proofs.PublicCall.{Call, Borrowed, BorrowedMut, call}
use Rattle.theorems.proofs.RefusalNumbers.{OneOf, asks-one, not-zero, header-one, answers-answer, answers-refused, then_one}
use Rattle.query_columns.proofs.row_by_columns.Met as row-by-columns-met
-- What the contract allows, where the buffer is left as `after`: `ByColumns κs tree width a buffer after r`.
pub use Rattle.theorems.specs.CallContracts.{ByColumns}

abbrev pub row_by_columns_call : Call
row_by_columns_call = call row_by_columns_function row-by-columns-met.met (λ 𝓤 𝓛 mem run κs a. (tt, refl))

-- For any bytes.

-- The numbers that its questions can give.
column-one : (t : List ℕ) (w a room : ℕ) → OneOf (5 ∷ 6 ∷ 7 ∷ 20 ∷ 10 ∷ 13 ∷ 14 ∷ 0 ∷ []) (row_by_columns_refusal t w a room)
unfolding row_by_columns_refusal
column-one t w a room =
    then_one (5 ∷ 6 ∷ 7 ∷ []) (20 ∷ 10 ∷ 13 ∷ 14 ∷ 0 ∷ []) (header_result t) _ (header-one t)
    (asks-one ((20, width_ok w (at.text_length t)) ∷ (10, ltb a (at.text_length t / w)) ∷ (13, leb w room) ∷ (14, cells_hold t w a) ∷ []))

-- Where no question refuses, the row fits.
column_fits : (t : List ℕ) (w a room : ℕ) → row_by_columns_refusal t w a room ≡ 0 → w ≤ room
unfolding row_by_columns_refusal
column_fits t w a room h =
    let n = at.text_length t in
    let questions : List (ℕ × Bool) = (20, width_ok w n) ∷ (10, ltb a (n / w)) ∷ (13, leb w room) ∷ (14, cells_hold t w a) ∷ [] in
    leb-true w room (asks-pass questions refl (next-passes (header_result t) (asks questions) h).1).1.1.0

module _ (κs : Lfts 2) (t : Borrowed) (w a : ℕ) (buffer after : BorrowedMut) where
  -- A result is w bytes, which fit, and the bytes after them are unchanged.
  pub column-answer : (m e : ℕ) → ByColumns κs t w a buffer after (Ok (m, e))
      → (m ≡ w) × (e ≡ 0) × (w ≤ length buffer.now) × (drop w after.now ≡ drop w buffer.now)
  unfolding row_by_columns_answer row_by_columns_buffer
  column-answer m e c =
      let s = answers-answer m e _ w 0 c.0.answers in
      let row = tabulate w (λ b. (byte_answer t.now (cell t.now w a b)).value) in
      let left : after.now ≡ row ++ drop w buffer.now = rw (eq-eqb (row_by_columns_refusal t.now w a (length buffer.now)) 0 s.0) at c.1 in (
        s.1,
        s.2,
        column_fits t.now w a (length buffer.now) s.0,
        rw left (drop_at row (drop w buffer.now) w (length-tabulate w (λ b. (byte_answer t.now (cell t.now w a b)).value))),
      )

  module _ (q : Refusal) (c : ByColumns κs t w a buffer after (Err q)) where
    -- The number is the definition's.
    column-answers : refusal_number q ≡ row_by_columns_refusal t.now w a (length buffer.now)
    unfolding row_by_columns_answer
    column-answers = answers-refused (refusal_number q) _ w 0 c.0.numbered c.0.answers

    -- A refusal is 5, 6, 7, 20, 10, 13 or 14.
    pub column-numbers : OneOf (5 ∷ 6 ∷ 7 ∷ 20 ∷ 10 ∷ 13 ∷ 14 ∷ []) (refusal_number q)
    column-numbers =
        not-zero (5 ∷ 6 ∷ 7 ∷ 20 ∷ 10 ∷ 13 ∷ 14 ∷ []) (refusal_number q) c.0.numbered (rw column-answers (column-one t.now w a (length buffer.now)))

    -- Refusal 14 leaves w zeros.
    pub column-zeros : q ≡ PathBroken → after.now ≡ replicate w 0 ++ drop w buffer.now
    unfolding row_by_columns_buffer
    column-zeros e = c.1 ∙ rw (← column-answers, e)

    -- Any other refusal leaves the buffer unchanged.
    pub column-unchanged : (q ≡ PathBroken → ⊥) → after.now ≡ buffer.now
    unfolding row_by_columns_buffer
    column-unchanged e = c.1 ∙ rw (
      ← column-answers,
      ne_eqb (refusal_number q) 0 (λ z. omega (arith, c.0.numbered)),
      ne_eqb (refusal_number q) 14 (λ z. e (one-number q PathBroken z)),
    )

-- Any tree that the check accepts, and the one text that fits it.
module _ (t : Borrowed) (v : check_result t.now ≡ 0) where
  pass : header_result t.now ≡ 0
  pass = accepted-header t.now v

  size : length (text_of t.now) ≡ at.text_length t.now
  size = text-size t.now v

  pub accepted-answers : ColumnAnswers t (at.settings t.now) (text_of t.now)
  accepted-answers = record { column_of = λ κs w a buffer after r c ok low room. columns.column-copies κs t v w a buffer after r c ok low room }

  pub accepted-refuses : ColumnRefuses t (at.settings t.now) (text_of t.now)
  accepted-refuses = record {
    column_width = λ κs w a buffer after r c other. columns.column_width κs t w a buffer after r c pass (rw size at other);
    column_past = λ κs w a buffer after r c ok past. columns.column_past κs t w a buffer after r c pass (rw size at ok) (rw size at past);
    column_short = λ κs w a buffer after r c ok low small.
        columns.column_short κs t w a buffer after r c pass (rw size at ok) (rw size at low) small;
  }
