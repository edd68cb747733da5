-- next_with_prefix(tree, prefix, mark): the next row after a mark that starts with the prefix; next_with_prefix_guided(tree, guide, prefix, mark)
-- the same with a guide. The theorems about repeated calls are in `Theorems` of their crate.
use Rattle.std.specs.Prelude.{Err}
use Rattle.refusals.specs.Refusals.{refusal_number}
use mathlib.Core.List.{List, [], ◌∷◌}
use mathlib.Core.Path.{◌≡◌, refl}
use Prim.Native.Nat.{ℕ}
use contract.Lifetimes.{Lfts}
use Rattle.format.specs.Layout as at
use Rattle.format.specs.TreeReading.{text_of, header_result, check_result}
use Rattle.format.specs.CheckResultLaws.{accepted-header}
use Rattle.query_places.specs.Places.{pattern_ok}
use Rattle.query_guide.specs.Guides.{guide_refusal}
use Rattle.query_guide.proofs.GuideList.{guide-checked}
use Rattle.query_prefix.proofs.Theorems.{IsPrefixAnswer}
use Rattle.query_prefix.proofs.Theorems as query-prefix
use Rattle.theorems.specs.CallContracts.{Refusal}
use Rattle.theorems.specs.Promises.{PrefixAnswers, PrefixRefuses}
use Rattle.theorems.specs.PublicFunctions.{next_row_with_prefix_function, next_row_with_prefix_guided_function}
use Rattle.theorems.proofs.AcceptedTree.{among-counted, not-counted}
use Rattle.theorems.proofs.PublicCall.{Call, Borrowed, call}
use Rattle.theorems.proofs.RefusalNumbers.{OneOf, search-numbers}
use Rattle.query_prefix.proofs.next_with_prefix.Met as next-met
use Rattle.query_prefix.proofs.next_with_prefix_guided.Met as guided-met
-- What the contracts allow: `NextRowWithPrefix κs tree prefix mark r`, `NextRowWithPrefixGuided κs tree guide prefix mark r`.
pub use Rattle.theorems.specs.CallContracts.{NextRowWithPrefix}
pub use Rattle.query_prefix.proofs.Theorems.{NextRowWithPrefixGuided}

abbrev pub next_row_with_prefix_call : Call
next_row_with_prefix_call = call next_row_with_prefix_function next-met.met (λ 𝓤 𝓛 mem run κs a. (tt, refl))

abbrev pub next_row_with_prefix_guided_call : Call
next_row_with_prefix_guided_call = call next_row_with_prefix_guided_function guided-met.met (λ 𝓤 𝓛 mem run κs a. (tt, refl))

-- For any bytes.

-- A refusal is the number of a question before the walk, or 14.
refusal-one : (t : List ℕ) (ok : ℕ) (sound : ok ≡ 0 → check_result t ≡ 0) (prefix : List ℕ) (mark : ℕ) (q : Refusal)
    → IsPrefixAnswer t ok prefix mark (Err q) → OneOf (5 ∷ 6 ∷ 7 ∷ 16 ∷ 11 ∷ 14 ∷ []) (refusal_number q)
refusal-one t ok sound prefix mark q a =
    search-numbers t 16 (pattern_ok prefix) q (query-prefix.prefix-refusal t ok sound prefix mark q a)

-- A refusal is 5, 6, 7, 16, 11 or 14.
pub prefix-numbers : (κs : Lfts 2) (t prefix : Borrowed) (mark : ℕ) (q : Refusal)
    → NextRowWithPrefix κs t prefix mark (Err q) → OneOf (5 ∷ 6 ∷ 7 ∷ 16 ∷ 11 ∷ 14 ∷ []) (refusal_number q)
prefix-numbers κs t prefix mark q a = refusal-one t.now (check_result t.now) (λ v. v) prefix.now mark q a

pub prefix-guided-numbers : (κs : Lfts 3) (t guide prefix : Borrowed) (mark : ℕ) (q : Refusal)
    → NextRowWithPrefixGuided κs t guide prefix mark (Err q) → OneOf (5 ∷ 6 ∷ 7 ∷ 16 ∷ 11 ∷ 14 ∷ []) (refusal_number q)
prefix-guided-numbers κs t guide prefix mark q a =
    refusal-one t.now (guide_refusal t.now guide.now) (guide-checked t.now guide.now) prefix.now mark q a

-- Any tree that the check accepts, and the one text that fits it.
module _ (t : Borrowed) (v : check_result t.now ≡ 0) where
  pass : header_result t.now ≡ 0
  pass = accepted-header t.now v

  pub accepted-answers : PrefixAnswers t (at.settings t.now) (text_of t.now)
  accepted-answers = record {
    prefix_of = λ κs prefix mark r a ok k. query-prefix.prefix-is t.now (check_result t.now) (λ w. w) prefix.now v mark r a
        (query-prefix.prefix-through t.now prefix.now pass ok (among-counted t.now 10 k));
  }

  pub accepted-refuses : PrefixRefuses t (at.settings t.now) (text_of t.now)
  accepted-refuses = record {
    prefix_length = λ κs prefix mark r a wrong. query-prefix.prefix_length t.now (check_result t.now) (λ w. w) prefix.now mark r a pass wrong;
    prefix_other = λ κs prefix mark r a ok other. query-prefix.prefix-uncounted t.now (check_result t.now) (λ w. w) prefix.now mark r a pass ok
        (not-counted t.now v 10 other);
  }
