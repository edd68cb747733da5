-- next_match(tree, ranges, mark): the next row after a mark whose cuts are each in their range; show(mark, tree, ranges) moves the caller's mark. `Theorems`
-- of their crate has the theorems on the mark.
use Rattle.std.specs.Prelude.{Err}
use Rattle.refusals.specs.Refusals.{refusal_number}
use mathlib.Core.List.{List, [], ◌∷◌}
use mathlib.Core.Bool.{true}
use mathlib.Core.Path.{◌≡◌, refl}
use Prim.Native.Nat.{ℕ}
use contract.Lifetimes.{Lfts}
use Rattle.format.specs.Layout as at
use Rattle.format.specs.TreeReading.{text_of, header_result, check_result}
use Rattle.format.specs.CheckResultLaws.{accepted-header}
use Rattle.keys.specs.Keys.{ranges_ok}
use Rattle.query_row_filter.specs.AllowedRows.{query_refusal}
use Rattle.query_key_match.proofs.Theorems.{refusal_is}
use Rattle.query_key_match.proofs.Theorems as key-match
use Rattle.theorems.specs.CallContracts.{Refusal}
use Rattle.theorems.specs.Promises.{CountedIn, MatchAnswers, MatchRefuses}
use Rattle.theorems.specs.PublicFunctions.{next_match_function, advance_mark_function}
use Rattle.theorems.proofs.AcceptedTree.{among-counted, not-counted}
use Rattle.theorems.proofs.PublicCall.{Call, Borrowed, call}
use Rattle.theorems.proofs.RefusalNumbers.{OneOf, search-numbers}
use Rattle.query_key_match.proofs.next_match.Met as next-match-met
use Rattle.query_key_match.proofs.advance_mark.Met as advance-mark-met
-- What the contract of `next_match` allows: `NextMatch κs tree ranges mark r`; the contract of `advance_mark` is `Moved`.
pub use Rattle.theorems.specs.CallContracts.{NextMatch}
pub use Rattle.query_key_match.specs.MatchAnswer.{Moved}

abbrev pub next_match_call : Call
next_match_call = call next_match_function next-match-met.met (λ 𝓤 𝓛 mem run κs a. (tt, refl))

abbrev pub advance_mark_call : Call
advance_mark_call = call advance_mark_function advance-mark-met.met (λ 𝓤 𝓛 mem run κs a. (tt, refl))

-- For any bytes.

-- A refusal is 5, 6, 7, 19, 11 or 14.
pub match-numbers : (κs : Lfts 2) (t ranges : Borrowed) (mark : ℕ) (q : Refusal) → NextMatch κs t ranges mark (Err q)
    → OneOf (5 ∷ 6 ∷ 7 ∷ 19 ∷ 11 ∷ 14 ∷ []) (refusal_number q)
match-numbers κs t ranges mark q a = search-numbers t.now 19 (ranges_ok ranges.now) q (refusal_is t.now ranges.now mark q a)

-- Any tree that the check accepts, and the one text that fits it.
module _ (t : Borrowed) (v : check_result t.now ≡ 0) where
  pass : header_result t.now ≡ 0
  pass = accepted-header t.now v

  -- Questions 19 and 11 let the search for a match through.
  match-through : (ranges : List ℕ) → ranges_ok ranges ≡ true → CountedIn 10 (at.settings t.now).counted → query_refusal t.now 19 (ranges_ok ranges) ≡ 0
  match-through ranges ok k = key-match.match-through t.now ranges pass ok (among-counted t.now 10 k)

  pub accepted-answers : MatchAnswers t (at.settings t.now) (text_of t.now)
  accepted-answers = record {
    match_of = λ κs ranges mark r a ok k. key-match.match_is t.now ranges.now v mark r a (match-through ranges.now ok k);
  }

  pub accepted-refuses : MatchRefuses t (at.settings t.now) (text_of t.now)
  accepted-refuses = record {
    match_ranges = λ κs ranges mark r a wrong. key-match.match_ranges t.now ranges.now mark r a pass wrong;
    match_other = λ κs ranges mark r a ok other. key-match.match-uncounted t.now ranges.now mark r a pass ok (not-counted t.now v 10 other);
  }
