-- The numbers with which questions in order can refuse: the laws of `theory_accepted`, for the files of the calls.
pub use Rattle.theory_accepted.specs.QuestionNumbers.{OneOf, of_left, of_right, of-more, not-zero, numbers, asks-one, unless-one, then_one}
pub use Rattle.theory_accepted.specs.QuestionNumbers.{header-one, checked-one, answers-refused, answers-answer}
use Rattle.refusals.specs.declared.Refusal.{Refusal}
use Rattle.refusals.specs.declared.Refusal.TheVariants.{PathBroken}
use Rattle.refusals.specs.Refusals.{refusal_number}
use Rattle.refusals.specs.RefusalsLaws.{number-above}
use mathlib.Core.List.{List, [], ◌∷◌}
use mathlib.Core.Bool.{Bool}
use mathlib.Core.Path.{◌≡◌, ap}
use mathlib.Core.Logic.{◌⊎◌, inl, inr}
use Prim.Native.Nat.{ℕ}
use Rattle.format.specs.Answers.{is_counted}
use Rattle.format.specs.TreeReading.{header_result}
use Rattle.query_row_filter.specs.AllowedRows.{query_refusal, newline_refusal}

-- A search for the next row is refused with the number of a question before the walk, or with 14; q is the number of the query's own question.
pub search-numbers : (t : List ℕ) (q : ℕ) (ok : Bool) (d : Refusal)
    → {P : Type 0} → (refusal_number d ≡ query_refusal t q ok) ⊎ ((d ≡ PathBroken) × P) → OneOf (5 ∷ 6 ∷ 7 ∷ q ∷ 11 ∷ 14 ∷ []) (refusal_number d)
unfolding query_refusal newline_refusal
search-numbers t q ok d (inl e) =
    let n = refusal_number d in
    of_left (5 ∷ 6 ∷ 7 ∷ q ∷ 11 ∷ []) (14 ∷ []) n (not-zero (5 ∷ 6 ∷ 7 ∷ q ∷ 11 ∷ []) n (number-above d) (rw e
    (then_one (5 ∷ 6 ∷ 7 ∷ []) (q ∷ 11 ∷ 0 ∷ []) (header_result t) _ (header-one t) (asks-one ((q, ok) ∷ (11, is_counted t 10) ∷ [])))))
search-numbers t q ok d (inr h) = of_right (5 ∷ 6 ∷ 7 ∷ q ∷ 11 ∷ []) (14 ∷ []) (refusal_number d) (inl (ap refusal_number h.0))
