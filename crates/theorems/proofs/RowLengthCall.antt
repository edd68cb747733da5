-- row_length(tree, q): the number of bytes of a row. `Theorems` of its crate has the theorems on what it returns.
use Rattle.std.specs.Prelude.{Err}
use Rattle.refusals.specs.Refusals.{refusal_number}
use mathlib.Core.List.{[], ◌∷◌}
use mathlib.Core.Path.{◌≡◌, refl}
use mathlib.Core.Logic.{◌⊎◌, inl, inr}
use Prim.Native.Nat.{ℕ, ◌≤◌, ◌<◌}
use native.Mathlib.Omega.{arith}
use contract.Lifetimes.{Lfts}
use Rattle.text.specs.ListLaws.{lt-or-ge}
use Rattle.format.specs.TreeReading.{check_result}
use Rattle.format.specs.Answers.{row_most, row_refusal}
use Rattle.theorems.specs.CallContracts.{Refusal}
use Rattle.theorems.specs.PublicFunctions.{row_length_function}
use Rattle.theorems.proofs.PublicCall.{Call, Borrowed, call}
use Rattle.theorems.proofs.RefusalNumbers.{OneOf, of_right}
use Rattle.theorems.proofs.RowOutcomes.{row_before}
use Rattle.query_rows.proofs.row_length.Met as row-length-met
-- What the contract allows: `LengthOf κs tree q r`.
pub use Rattle.query_rows.proofs.Theorems.{LengthOf}

abbrev pub row_length_call : Call
row_length_call = call row_length_function row-length-met.met (λ 𝓤 𝓛 mem run κs a. (tt, refl))

-- For any bytes: a refusal is 5, 6, 7, 11, 12 or 14.
pub length-numbers : (κs : Lfts 1) (t : Borrowed) (q : ℕ) (d : Refusal) → LengthOf κs t q (Err d) → OneOf (5 ∷ 6 ∷ 7 ∷ 11 ∷ 12 ∷ 14 ∷ []) (refusal_number d)
length-numbers κs t q d a = go (lt-or-ge 0 (row_refusal t.now q)) (lt-or-ge 0 (check_result t.now))
  where
    n : ℕ
    n = refusal_number d

    free : ((n ≡ 0) × (0 ≤ row_most t.now q)) ⊎ ((n ≡ 14) × (◌≡◌ {A = ℕ} 0 0)) → OneOf (5 ∷ 6 ∷ 7 ∷ 11 ∷ 12 ∷ 14 ∷ []) n
    free (inl e) = absurd (let z : ⊥ = omega (arith, a.numbered, e.0) in z)
    free (inr e) = of_right (5 ∷ 6 ∷ 7 ∷ 11 ∷ 12 ∷ []) (14 ∷ []) n (inl e.0)

    go : (0 < row_refusal t.now q) ⊎ (row_refusal t.now q ≤ 0) → (0 < check_result t.now) ⊎ (check_result t.now ≤ 0)
        → OneOf (5 ∷ 6 ∷ 7 ∷ 11 ∷ 12 ∷ 14 ∷ []) n
    go (inl l) v = row_before t.now q n a.numbered (a.answers.asked l).0
    go (inr l) (inl v) = free (a.answers.free (omega arith) (λ z. omega arith))
    go (inr l) (inr v) = absurd (let z = (a.answers.accepted (omega arith) (omega arith)).0 in let y : ⊥ = omega (arith, a.numbered) in y)
