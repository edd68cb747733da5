-- The walk with a guide, after the questions before it.
use Rattle.std.specs.Prelude.{List, ◌≡◌, ◌⊎◌, ℕ, ◌<◌, Result, Ok, Err}
use Rattle.text.specs.declared.TextPlace.{TextPlace}
use Rattle.format.specs.Layout as at
use Rattle.format.specs.Answers.{Answer, refused, found}
use Rattle.refusals.specs.declared.Refusal.{Refusal}
use Rattle.query_guide.specs.Guides.{guide_refusal}
use Rattle.query_guided.specs.Guided.{steps_to}

-- What was found, with the steps to its block and without.
abbrev pub stepped : Result (TextPlace × ℕ) Refusal → ℕ → Result (TextPlace × ℕ × ℕ) Refusal
stepped (Ok x) steps = Ok (x.0, x.1, steps)
stepped (Err e) steps = Err e

abbrev pub found_of : Result (TextPlace × ℕ × ℕ) Refusal → Result (TextPlace × ℕ) Refusal
found_of (Ok x) = Ok (x.0, x.1)
found_of (Err e) = Err e

-- The walk with a guide, after the questions before it, for counted byte number c.
pub record SoughtBy (t guide : List ℕ) (byte c j : ℕ) (s : Answer) (steps : ℕ) : Type 0 where
  pub accepted : guide_refusal t guide ≡ 0 → (s ≡ found t byte j) × (steps ≡ steps_to t c j)
  pub free : ((s ≡ refused 14) × (steps ≡ 0)) ⊎ ((s.number ≡ 0) × (s.value < at.text_length t))
