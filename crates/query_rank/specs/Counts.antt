-- What count answers, by its number and figures (docs/FORMAT.md, "Count").
use Rattle.std.specs.Prelude.{List, ℕ, leb, Result, Ok, Err}
use Rattle.format.specs.Layout as at
use Rattle.format.specs.TreeReading.{ask, or_next, header_result}
use Rattle.format.specs.Answers.{Reply, figures, refusal, Is, count_answer}
use Rattle.refusals.specs.declared.Refusal.{Refusal}
use Rattle.refusals.specs.Refusals.{refusal_number}

-- How often the byte occurs, and the blocks entered.
abbrev pub count_reply : Result (ℕ × ℕ) Refusal → Reply
count_reply (Ok x) = figures x.0 x.1
count_reply (Err e) = refusal (refusal_number e)

abbrev pub IsCountAnswer : (t : List ℕ) (byte i : ℕ) → Result (ℕ × ℕ) Refusal → Type 0
IsCountAnswer t byte i = Is count_reply (count_answer t byte i)

-- The refusal of count and find for a number above 255, which is not a byte and so not counted: questions 5 to 7, then 10 for a prefix of i bytes, then 11.
unfoldable pub uncounted_refusal : List ℕ → ℕ → ℕ
uncounted_refusal t i = or_next (header_result t) (ask 10 (leb i (at.text_length t)) 11)
