-- What find with a guide may return for any bytes given as a tree and as a guide: one answer if a question refuses or both are valid, else any of those that
-- the format leaves free.
-- docs/FORMAT.md: "Guides", "Unspecified results".
use Rattle.std.specs.Prelude.{List, ◌≡◌, ℕ, ◌-◌, ◌<◌, Result, Ok, Err}
use Rattle.text.specs.declared.TextPlace.{TextPlace}
use Rattle.format.specs.Answers.{Answer, Reply, figures, refusal, Allowed, number_of_byte, find_refusal, FindBy}
use Rattle.query_guide.specs.Guides.{last_listed, block_of, guide_refusal}
use Rattle.refusals.specs.declared.Refusal.{Refusal}
use Rattle.refusals.specs.Refusals.{refusal_number}

-- The number of steps on level 0 to the j-th occurrence of counted byte number c: from the block of the last sampled occurrence up to j to the block of the
-- j-th.
unfoldable pub steps_to : List ℕ → ℕ → ℕ → ℕ
steps_to t c j = block_of t c j - block_of t c (last_listed j)

-- The answers that find with a guide may return: those of find if tree and guide are valid, else 14 or some place of the text. A refusal has no steps.
pub record FindGuidedAnswers (t guide : List ℕ) (byte j : ℕ) (s : Answer) (steps : ℕ) : Type 0 where
  pub finds : FindBy t (guide_refusal t guide) byte j s
  pub absent : 0 < s.number → steps ≡ 0
  pub counted : find_refusal t byte j ≡ 0 → guide_refusal t guide ≡ 0 → steps ≡ steps_to t (number_of_byte t byte) j

-- A place with the blocks on its path, and the steps on level 0.
abbrev pub find_guided_reply : Result (TextPlace × ℕ × ℕ) Refusal → Reply
find_guided_reply (Ok x) = figures x.0.0 x.1
find_guided_reply (Err e) = refusal (refusal_number e)

-- The steps on level 0; 0 if refused.
abbrev pub steps_of : Result (TextPlace × ℕ × ℕ) Refusal → ℕ
steps_of (Ok x) = x.2
steps_of (Err e) = 0

abbrev pub IsFindGuidedAnswer : (t guide : List ℕ) (byte j : ℕ) → Result (TextPlace × ℕ × ℕ) Refusal → Type 0
IsFindGuidedAnswer t guide byte j r = Allowed find_guided_reply (λ s. FindGuidedAnswers t guide byte j s (steps_of r)) r
