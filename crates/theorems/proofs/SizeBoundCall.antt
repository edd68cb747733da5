-- enough(n, leaf, arity, levels, counted): a size that is enough for the tree of every text of n bytes, with this number of counted bytes.
use Rattle.std.specs.Prelude.{Result, Ok, Err}
use Rattle.refusals.specs.Refusals.{refusal_number}
use mathlib.Core.List.{[], ◌∷◌}
use mathlib.Core.Bool.{true}
use mathlib.Core.Path.{◌≡◌, refl}
use Prim.Native.Nat.{ℕ}
use lib.Dec.{leb}
use Rattle.format.specs.Layout.{length_ok, sizes_ok, max_counted}
use Rattle.layout.specs.CheckedSettings.{sizes}
use Rattle.format.specs.TreeReading.{ask}
use Rattle.format.specs.LayoutLaws.{ask-test, ask-rest}
use Rattle.build_size_bound.specs.SizeBound.{size_bound_for, size_bound_refusal, size_bound_answer}
use Rattle.theorems.specs.CallContracts.{Refusal}
use Rattle.theorems.specs.PublicFunctions.{size_bound_function}
use Rattle.theorems.proofs.PublicCall.{Call, call}
use Rattle.theorems.proofs.RefusalNumbers.{OneOf, asks-one, not-zero, answers-refused, answers-answer}
use Rattle.build_size_bound.proofs.size_bound.Met as size-bound-met
use Rattle.build_size_bound.proofs.size_bound.Reads as size-bound-reads

-- What the contract allows.
abbrev pub SizeBound : (n leaf arity levels counted : ℕ) → Result ℕ Refusal → Type 0
SizeBound n leaf arity levels counted r =
    size-bound-reads.Post tt (n, (leaf, (arity, (levels, (counted, tt))))) r (n, (leaf, (arity, (levels, (counted, tt)))))

abbrev pub size_bound_call : Call
size_bound_call = call size_bound_function size-bound-met.met (λ 𝓤 𝓛 mem run κs a. (tt, refl))

-- A refusal is 1, 2 or 3.
pub size-bound-numbers : (n leaf arity levels k : ℕ) (q : Refusal) → SizeBound n leaf arity levels k (Err q) → OneOf (1 ∷ 2 ∷ 3 ∷ []) (refusal_number q)
unfolding size_bound_answer size_bound_refusal
size-bound-numbers n leaf arity levels k q a =
    let e = answers-refused (refusal_number q) (size_bound_refusal n leaf arity levels k) (size_bound_for n leaf arity levels k) 0 a.numbered a.answers in
    not-zero (1 ∷ 2 ∷ 3 ∷ []) (refusal_number q) a.numbered
    (rw e (asks-one ((1, length_ok n) ∷ (2, sizes_ok (sizes leaf arity levels)) ∷ (3, leb k max_counted) ∷ [])))

-- An answer is the size that is enough, and questions 1 and 2 hold.
pub size-bound-answer : (n leaf arity levels k m : ℕ) → SizeBound n leaf arity levels k (Ok m)
    → (length_ok n ≡ true) × (sizes_ok (sizes leaf arity levels) ≡ true) × (m ≡ size_bound_for n leaf arity levels k)
unfolding size_bound_answer size_bound_refusal
size-bound-answer n leaf arity levels k m a =
    let w = answers-answer m 0 (size_bound_refusal n leaf arity levels k) (size_bound_for n leaf arity levels k) 0 a.answers in
    let two = ask 2 (sizes_ok (sizes leaf arity levels)) (ask 3 (leb k max_counted) 0) in
    (ask-test 0 (length_ok n) two w.0, ask-test 1 (sizes_ok (sizes leaf arity levels)) _ (ask-rest 0 (length_ok n) two w.0), w.1)
