-- The answer of find by its refusal and figures (docs/FORMAT.md, "Find", "Unspecified results").
use Rattle.std.specs.Prelude.{List, ℕ, Result, Ok, Err}
use Rattle.text.specs.declared.TextPlace.{TextPlace}
use Rattle.format.specs.TreeReading.{check_result}
use Rattle.format.specs.Answers.{Reply, figures, refusal, Allowed}
use Rattle.format.specs.Answers as find
use Rattle.refusals.specs.declared.Refusal.{Refusal}
use Rattle.refusals.specs.Refusals.{refusal_number}

-- A place with the blocks on its path.
abbrev pub find_reply : Result (TextPlace × ℕ) Refusal → Reply
find_reply (Ok x) = figures x.0.0 x.1
find_reply (Err e) = refusal (refusal_number e)

-- What a find answers that is settled where `ok` is 0: find's own is the check's number, that of a find with a guide the guide's.
abbrev pub FoundBy : (t : List ℕ) (ok byte j : ℕ) → Result (TextPlace × ℕ) Refusal → Type 0
FoundBy t ok byte j = Allowed find_reply (find.FindBy t ok byte j)

-- The answer of find.
abbrev pub IsFindAnswer : (t : List ℕ) (byte j : ℕ) (r : Result (TextPlace × ℕ) Refusal) → Type 0
IsFindAnswer t = FoundBy t (check_result t)
