-- The answers of byte, span and run by their refusals and figures (docs/FORMAT.md, "Questions and refusals").
use Rattle.std.specs.Prelude.{List, ◌≡◌, ℕ, ◌+◌, ◌≤◌, length, Result, Ok, Err}
use Rattle.refusals.specs.declared.Refusal.{Refusal}
use Rattle.refusals.specs.Refusals.{refusal_number}
use Rattle.query_access.specs.declared.read_by_header.TreeRange.{TreeRange}
use Rattle.format.specs.Answers.{Reply, figures, refusal, replied, NeverZero, Is, byte_answer, run_answer, span_answer}

-- A byte with the blocks entered.
abbrev pub byte_reply : Result (ℕ × ℕ) Refusal → Reply
byte_reply (Ok x) = figures x.0 x.1
byte_reply (Err e) = refusal (refusal_number e)

-- The bytes that were copied, with the blocks entered.
abbrev pub span_reply : Result (ℕ × ℕ) Refusal → Reply
span_reply (Ok x) = figures x.0 x.1
span_reply (Err e) = refusal (refusal_number e)

abbrev pub IsSpanAnswer : (t : List ℕ) (p len room : ℕ) → Result (ℕ × ℕ) Refusal → Type 0
IsSpanAnswer t p len room = Is span_reply (span_answer t p len room)

-- Where a run starts in the tree, and its length.
abbrev pub run_range_reply : Result TreeRange Refusal → Reply
run_range_reply (Ok part) = figures part.from part.length
run_range_reply (Err e) = refusal (refusal_number e)

-- The run of place p, which is in the tree, or byte's number for p.
pub record IsRunAnswer (t : List ℕ) (p : ℕ) (r : Result TreeRange Refusal) : Type 0 where
  pub number_is : (replied (run_range_reply r)).number ≡ (byte_answer t p).number
  pub numbered : NeverZero (run_range_reply r)
  pub from_is : (replied (run_range_reply r)).value ≡ (run_answer t p).0
  pub length_is : (replied (run_range_reply r)).entered ≡ (run_answer t p).1
  pub inside : (replied (run_range_reply r)).value + (replied (run_range_reply r)).entered ≤ length t
