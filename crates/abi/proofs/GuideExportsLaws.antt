-- A guide's calls, as numbers.
use Rattle.std.specs.Prelude.{Result, Ok, Err}
use Rattle.refusals.specs.declared.Refusal.{Refusal}
use Rattle.refusals.specs.Refusals.{refusal_number}
use mathlib.Core.List.{List}
use mathlib.Core.Path.{◌≡◌, refl, ap, subst, ◌∙◌}
use Prim.Native.Nat.{ℕ, ◌<◌}
use native.Mathlib.Omega.{arith}
use lib.ListN.{get_or}
use Rattle.format.specs.Answers.{refused, replied, answer_with}
use Rattle.text.specs.declared.TextPlace.{TextPlace}
use Rattle.query_guided.specs.Guided.{FindGuidedAnswers, find_guided_reply, steps_of}
use Rattle.query_rank.specs.Counts.{uncounted_refusal}
use Rattle.abi.proofs.CountExportsLaws.{select-above, refuses-above}

module _ (t guide : List ℕ) (byte j : ℕ) (r : Result (TextPlace × ℕ × ℕ) Refusal)
    (k : FindGuidedAnswers t guide byte j (replied (find_guided_reply r)) (steps_of r)) where
  pub guided-answered : (place : TextPlace) (entered steps : ℕ) → r ≡ Ok (place, entered, steps)
      → FindGuidedAnswers t guide byte j (answer_with 0 place.0 entered) steps
  guided-answered place entered steps e = subst (λ (x : Result (TextPlace × ℕ × ℕ) Refusal). FindGuidedAnswers t guide byte j
      (replied (find_guided_reply x)) (steps_of x)) e k

  pub guided-refused : (q : Refusal) → r ≡ Err q → FindGuidedAnswers t guide byte j (answer_with (refusal_number q) 0 0) 0
  guided-refused q e = subst (λ (x : Result (TextPlace × ℕ × ℕ) Refusal). FindGuidedAnswers t guide byte j (replied (find_guided_reply x)) (steps_of x)) e k

-- A number above 255.
pub guided-above : (t : List ℕ) → ((k : ℕ) → get_or t k 0 < 256)
    → (byte : ℕ) → 255 < byte → (guide : List ℕ) (j r : ℕ) → r ≡ uncounted_refusal t 0 → FindGuidedAnswers t guide byte j (answer_with r 0 0) 0
guided-above t bytes byte high guide j r e = record {
  finds = record {
    asked = λ h. ap refused (e ∙ select-above t bytes byte high j);
    accepted = λ z a. absurd (omega (arith, refuses-above t bytes byte high j));
    free = λ z a. absurd (omega (arith, refuses-above t bytes byte high j));
  };
  absent = λ h. refl;
  counted = λ z a. absurd (omega (arith, refuses-above t bytes byte high j));
}
