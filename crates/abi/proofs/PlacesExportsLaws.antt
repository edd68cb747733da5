-- The places of a pattern, as numbers.
use Rattle.std.specs.Prelude.{Result, Ok, Err}
use Rattle.refusals.specs.declared.Refusal.{Refusal}
use Rattle.refusals.specs.Refusals.{refusal_number}
use mathlib.Core.List.{List}
use mathlib.Core.Path.{◌≡◌}
use Prim.Native.Nat.{ℕ}
use Rattle.query_places.specs.Places.{places_answer, IsPlacesAnswer}
use Rattle.format.specs.Answers.{answer_with}

module _ (t P : List ℕ) (room : ℕ) (r : Result ℕ Refusal) (a : IsPlacesAnswer t P room r) where
  pub places-answered : (n : ℕ) → r ≡ Ok n → answer_with 0 n 0 ≡ places_answer t P room
  places-answered n e = rw e at a.answers

  pub places-refused : (q : Refusal) → r ≡ Err q → answer_with (refusal_number q) 0 0 ≡ places_answer t P room
  places-refused q e = rw e at a.answers
