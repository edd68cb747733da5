-- row(tree, q, buffer): row q of the text, copied.
use Rattle.std.specs.Prelude.{Ok, Err}
use Rattle.refusals.specs.declared.Refusal.TheVariants.{ByteNotCounted, NoSuchOccurrence, AnswerDoesNotFit, PathBroken}
use Rattle.refusals.specs.Refusals.{refusal_number}
use Rattle.refusals.specs.RefusalsLaws.{number-above, one-number}
use mathlib.Core.List.{List, [], ◌∷◌, ◌++◌}
use mathlib.Core.Path.{◌≡◌, ap, ◌∙◌, refl}
use mathlib.Core.Logic.{◌⊎◌}
use Prim.Native.Nat.{ℕ, ◌+◌, ◌≤◌, ◌<◌}
use native.Mathlib.Omega.{arith}
use contract.Lifetimes.{Lfts}
use lib.ListN.{length, drop}
use Rattle.text.specs.Text.{substring, row_of}
use Rattle.format.specs.Answers.{NeverZero, replied, row_most, row_refusal}
use Rattle.format.specs.Layout.{Settings}
use Rattle.format.specs.Layout as at
use Rattle.format.specs.TreeReading.{text_of, check_result}
use Rattle.format.specs.CheckResultLaws.{accepted-header}
use Rattle.format.specs.RowRefusalLaws.{RowAnswers as RowAllowed}
use Rattle.theory_counts.specs.RowsOfText.{row-lets, row-twelve, row-eleven}
use Rattle.query_rows.specs.RowAnswers.{row_reply}
use Rattle.theorems.specs.CallContracts.{RowAnswer, Refusal}
use Rattle.theorems.specs.Promises.{RowAnswers, RowRefuses}
pub use Rattle.theorems.specs.CallContracts.{Row}
use Rattle.theorems.specs.PublicFunctions.{row_function}
use Rattle.theorems.proofs.AcceptedTree.{among-counted, not-counted}
use Rattle.theorems.proofs.PublicCall.{Call, Borrowed, BorrowedMut, call}
use Rattle.theorems.proofs.RefusalNumbers.{OneOf}
use Rattle.theorems.proofs.RowOutcomes.{RowOutcome, Zeros, outcome-copied, row-outcome, row-outcome-leaves, row-outcome-numbers}
use Rattle.theorems.proofs.RowOutcomes.{free-copied, free-short}
use Rattle.query_rows.proofs.row.Met as row-met

abbrev pub row_call : Call
row_call = call row_function row-met.met (λ 𝓤 𝓛 mem run κs a. (tt, refl))

-- For any bytes.
module _ (κs : Lfts 2) (t : Borrowed) (q : ℕ) (buffer after : BorrowedMut) where
  outcome-of : (n m : ℕ) → RowAllowed t.now q buffer.now n m after.now → RowOutcome t.now q buffer.now n m after.now
  outcome-of n m s = row-outcome t.now q buffer.now (check_result t.now) n m after.now s

  -- A row fits, and the bytes after it are unchanged.
  pub row-answer : (m : ℕ) → Row κs t q buffer after (Ok m) → (m ≤ length buffer.now) × (drop m after.now ≡ drop m buffer.now)
  row-answer m a = outcome-copied t.now q buffer.now m after.now (outcome-of 0 m a.answers)

  -- On a tree that the check refuses, the bytes copied are those that the paths give from some place on, and 13 means that the buffer is shorter than
  -- some such bytes.
  pub row-free : (check_result t.now ≡ 0 → ⊥) → (m : ℕ) → Row κs t q buffer after (Ok m)
      → (p : ℕ) × (p + m ≤ at.text_length t.now) × (after.now ≡ substring (text_of t.now) p m ++ drop m buffer.now)
  row-free refuses m a = free-copied t.now q buffer.now (check_result t.now) 0 m after.now a.answers refuses refl

  pub row-free-short : (check_result t.now ≡ 0 → ⊥) → Row κs t q buffer after (Err AnswerDoesNotFit)
      → (p : ℕ) × (len : ℕ) × (p + len ≤ at.text_length t.now) × (length buffer.now < len)
  row-free-short refuses a = free-short t.now q buffer.now (check_result t.now) 13 0 after.now a.answers refuses refl

  module _ (d : Refusal) (a : Row κs t q buffer after (Err d)) where
    -- A refusal is 5, 6, 7, 11, 12, 13 or 14.
    pub row-numbers : OneOf (5 ∷ 6 ∷ 7 ∷ 11 ∷ 12 ∷ 13 ∷ 14 ∷ []) (refusal_number d)
    row-numbers = row-outcome-numbers t.now q buffer.now d after.now (outcome-of (refusal_number d) 0 a.answers)

    -- A refusal leaves the buffer unchanged; or, for a 14 in copying, zeros at its start, no more than a row can have, and the rest unchanged.
    pub row-leaves : (after.now ≡ buffer.now) ⊎ ((d ≡ PathBroken) × Zeros (row_most t.now q) buffer.now after.now)
    row-leaves = row-outcome-leaves t.now q buffer.now d after.now (outcome-of (refusal_number d) 0 a.answers)

-- The answer in each case.
row_is : (r : RowAnswer) (v : ℕ) → NeverZero (row_reply r) → (replied (row_reply r)).number ≡ 0 → (replied (row_reply r)).value ≡ v → r ≡ Ok v
row_is (Ok m) v k z e = ap Ok e
row_is (Err d) v k z e = absurd (let y : ⊥ = omega arith in y)

row-no : (r : RowAnswer) (d : Refusal) → (replied (row_reply r)).number ≡ refusal_number d → r ≡ Err d
row-no (Ok m) d s = absurd (let z : ⊥ = omega (arith, number-above d) in z)
row-no (Err e) d s = ap Err (one-number e d s)

-- Any tree that the check accepts, and the one text that fits it.
module _ (t : Borrowed) (v : check_result t.now ≡ 0) where
  abbrev T : List ℕ
  T = text_of t.now

  abbrev S : Settings
  S = at.settings t.now

  pub accepted-answers : RowAnswers t S T
  accepted-answers = record {
    row-of = λ κs q buffer after r a k low high room.
        let h = a.answers.accepted (row-lets t.now v (among-counted t.now 10 k) q low high) v room in
        (row_is r (length (row_of T q)) a.numbered h.0 h.1, rw h.1 at h.2);
  }

  -- Refused before the walk.
  row-asked : (κs : Lfts 2) (q : ℕ) (buffer after : BorrowedMut) (r : RowAnswer) (d : Refusal) → Row κs t q buffer after r
      → row_refusal t.now q ≡ refusal_number d → (r ≡ Err d) × (after.now ≡ buffer.now)
  row-asked κs q buffer after r d a e = let h = a.answers.asked (rw e (omega (arith, number-above d))) in (row-no r d (h.0 ∙ e), h.2)

  pub accepted-refuses : RowRefuses t S T
  accepted-refuses = record {
    row_other = λ κs q buffer after r a other.
        row-asked κs q buffer after r ByteNotCounted a (row-eleven t.now q (accepted-header t.now v) (not-counted t.now v 10 other));
    row_none = λ κs q buffer after r a k none. row-asked κs q buffer after r NoSuchOccurrence a (row-twelve t.now v (among-counted t.now 10 k) q none);
    row_short = λ κs q buffer after r a k low high small.
        let h = a.answers.short (row-lets t.now v (among-counted t.now 10 k) q low high) v small in
        (row-no r AnswerDoesNotFit h.0, h.2);
  }
