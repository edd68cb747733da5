-- row_guided(tree, guide, q, buffer): row by finds that start at an entry of a guide. `Theorems` of its crate has the other theorems.
use Rattle.std.specs.Prelude.{Ok, Err}
use Rattle.refusals.specs.declared.Refusal.TheVariants.{AnswerDoesNotFit, PathBroken}
use Rattle.refusals.specs.Refusals.{refusal_number}
use mathlib.Core.List.{[], ◌∷◌, ◌++◌}
use mathlib.Core.Path.{◌≡◌, refl}
use mathlib.Core.Logic.{◌⊎◌}
use Prim.Native.Nat.{ℕ, ◌+◌, ◌≤◌, ◌<◌}
use contract.Lifetimes.{Lfts}
use lib.ListN.{length, drop}
use Rattle.text.specs.Text.{substring}
use Rattle.format.specs.Layout as at
use Rattle.format.specs.TreeReading.{text_of}
use Rattle.format.specs.Answers.{row_most}
use Rattle.query_guide.specs.Guides.{guide_refusal}
use Rattle.theorems.specs.CallContracts.{Refusal}
use Rattle.theorems.specs.PublicFunctions.{row_guided_function}
use Rattle.theorems.proofs.PublicCall.{Call, Borrowed, BorrowedMut, call}
use Rattle.theorems.proofs.RefusalNumbers.{OneOf}
use Rattle.theorems.proofs.RowOutcomes.{RowOutcome, Zeros, outcome-copied, row-outcome, row-outcome-leaves, row-outcome-numbers}
use Rattle.theorems.proofs.RowOutcomes.{free-copied, free-short}
use Rattle.query_rows.proofs.row_guided.Met as row-guided-met
-- What the contract allows, where the buffer is left as `after`: `RowGuided κs tree guide q buffer after r`.
pub use Rattle.query_rows.proofs.Theorems.{RowGuided}

abbrev pub row_guided_call : Call
row_guided_call = call row_guided_function row-guided-met.met (λ 𝓤 𝓛 mem run κs a. (tt, refl))

-- For any bytes: a row fits, and the bytes after it are unchanged.
module _ (κs : Lfts 3) (t guide : Borrowed) (q : ℕ) (buffer after : BorrowedMut) where
  pub row-guided-answer : (m : ℕ) → RowGuided κs t guide q buffer after (Ok m) → (m ≤ length buffer.now) × (drop m after.now ≡ drop m buffer.now)
  row-guided-answer m a =
      outcome-copied t.now q buffer.now m after.now
      (row-outcome t.now q buffer.now (guide_refusal t.now guide.now) 0 m after.now a.answers)

  -- If the tree or the guide is refused, the bytes copied are those that the paths give from some place on, on an accepted tree those of its text, and 13
  -- means that the buffer is shorter than some such bytes.
  pub row-guided-free : (guide_refusal t.now guide.now ≡ 0 → ⊥) → (m : ℕ) → RowGuided κs t guide q buffer after (Ok m)
      → (p : ℕ) × (p + m ≤ at.text_length t.now) × (after.now ≡ substring (text_of t.now) p m ++ drop m buffer.now)
  row-guided-free refuses m a = free-copied t.now q buffer.now (guide_refusal t.now guide.now) 0 m after.now a.answers refuses refl

  pub row-guided-free-short : (guide_refusal t.now guide.now ≡ 0 → ⊥) → RowGuided κs t guide q buffer after (Err AnswerDoesNotFit)
      → (p : ℕ) × (len : ℕ) × (p + len ≤ at.text_length t.now) × (length buffer.now < len)
  row-guided-free-short refuses a = free-short t.now q buffer.now (guide_refusal t.now guide.now) 13 0 after.now a.answers refuses refl

  module _ (d : Refusal) (a : RowGuided κs t guide q buffer after (Err d)) where
    outcome-of : RowOutcome t.now q buffer.now (refusal_number d) 0 after.now
    outcome-of = row-outcome t.now q buffer.now (guide_refusal t.now guide.now) (refusal_number d) 0 after.now a.answers

    -- A refusal is 5, 6, 7, 11, 12, 13 or 14.
    pub row-guided-numbers : OneOf (5 ∷ 6 ∷ 7 ∷ 11 ∷ 12 ∷ 13 ∷ 14 ∷ []) (refusal_number d)
    row-guided-numbers = row-outcome-numbers t.now q buffer.now d after.now outcome-of

    -- A refusal leaves the buffer as that of row does.
    pub row-guided-leaves : (after.now ≡ buffer.now) ⊎ ((d ≡ PathBroken) × Zeros (row_most t.now q) buffer.now after.now)
    row-guided-leaves = row-outcome-leaves t.now q buffer.now d after.now outcome-of
