-- List: a question that refuses, the room, the lines.
use mathlib.Core.List.{List}
use mathlib.Core.Path.{◌≡◌, refl, sym, ◌∙◌}
use Prim.Native.Nat.{ℕ, zero, suc, ◌+◌, ◌≤◌, ◌<◌}
use native.Mathlib.Nat.{zero-add}
use native.Mathlib.Omega.{arith}
use borrow.Author.Tests.{lt-leb, le-leb, ne_eqb}
use lib.ListN.{length, take, drop}
use lib.Seq.{take_at}
use Rattle.std.specs.Prelude.{Result, Ok, Err, ⊤}
use Rattle.refusals.specs.declared.Refusal.{Refusal}
use Rattle.refusals.specs.declared.Refusal.TheVariants.{AnswerDoesNotFit}
use Rattle.refusals.specs.Refusals.{refusal_number, result_refusal}
use Rattle.refusals.specs.RefusalsLaws.{number-above}
use Rattle.list_lines.specs.ListedLines.{input_refusal, printed, max_lines, list_written, ListPut, list_refusal, list_answer, IsListAnswer, list_buffer}

module _ (t out : List ℕ) where
  -- A refusal, which leaves the buffer.
  left : (n : ℕ) (q : Refusal) → refusal_number q ≡ n → list_refusal t (length out) ≡ n → IsListAnswer t (length out) (Err q) × (out ≡ list_buffer t out)
  unfolding list_answer list_buffer
  left zero q number is = absurd (let z : ⊥ = omega (arith, number-above q) in z)
  left (suc n) q number is = (record { answers = rw (number, is); numbered = number-above q }, rw (is, ne_eqb (suc n) 0 (λ e. omega arith)))

  pub list-refused : (x : Result ⊤ Refusal) (q : Refusal) → result_refusal x ≡ input_refusal t → x ≡ Err q
      → IsListAnswer t (length out) (Err q) × (out ≡ list_buffer t out)
  unfolding list_refusal
  list-refused x q is e =
      let n : refusal_number q ≡ input_refusal t = rw e at is in
      left (refusal_number q) q refl (rw (← n, ne_eqb (refusal_number q) 0 (λ z. omega (arith, number-above q))))

  module _ (passed : input_refusal t ≡ 0) (size : ℕ) (d e : List ℕ) (put : ListPut d e 0 size (printed t) max_lines) where
    size_is : size ≡ length (printed t)
    size_is = put.after ∙ zero-add (length (printed t))

    pub list-tight : length out < size → IsListAnswer t (length out) (Err AnswerDoesNotFit) × (out ≡ list_buffer t out)
    unfolding list_refusal
    list-tight h = left 13 AnswerDoesNotFit refl (rw (passed, ← size_is, lt-leb size (length out) h))

    -- The lines are the buffer's first bytes.
    lines_are : take size e ≡ printed t
    unfolding list_written
    lines_are = rw put.bytes (take_at (printed t) (drop (0 + length (printed t)) d) size (sym size_is))

    pub list-fits : size ≤ length out
        → (after : List ℕ) (end most : ℕ) → ListPut out after 0 end (take size e) most → IsListAnswer t (length out) (Ok size) × (after ≡ list_buffer t out)
    unfolding list_refusal list_answer list_buffer list_written
    list-fits h after end most p =
        let room = le-leb size (length out) h in (
          record { answers = rw (passed, ← size_is, room); numbered = tt },
          p.bytes ∙ rw (lines_are, passed, ← size_is, room, zero-add size),
        )
