-- places_words(tree, length): how many words hold all places of any pattern of that length.
use Rattle.std.specs.Prelude.{Err}
use Rattle.refusals.specs.Refusals.{refusal_number}
use mathlib.Core.List.{[], ◌∷◌}
use mathlib.Core.Bool.{◌&&◌}
use mathlib.Core.Path.{◌≡◌, ap, refl}
use mathlib.Core.Logic.{inl}
use Prim.Native.Nat.{ℕ}
use contract.Lifetimes.{Lfts}
use lib.Dec.{leb}
use Rattle.format.specs.Layout as at
use Rattle.format.specs.TreeReading.{header_result}
use Rattle.format.specs.Answers.{Answer}
use Rattle.query_places.specs.Places.{max_pattern, words_for, places_words_answer}
use Rattle.theorems.specs.CallContracts.{Refusal}
use Rattle.theorems.specs.PublicFunctions.{places_words_function}
use Rattle.theorems.proofs.PublicCall.{Call, Borrowed, call}
use Rattle.theorems.proofs.RefusalNumbers.{OneOf, asks-one, not-zero, header-one, unless-one}
use Rattle.query_places.proofs.places_words.Met as places-words-met
-- What the contract allows: `PlacesWords κs tree length r`.
pub use Rattle.query_places.proofs.Theorems.{PlacesWords}

abbrev pub places_words_call : Call
places_words_call = call places_words_function places-words-met.met (λ 𝓤 𝓛 mem run κs a. (tt, refl))

-- For any bytes: a refusal is 5, 6, 7 or 16.
pub room-numbers : (κs : Lfts 1) (t : Borrowed) (len : ℕ) (q : Refusal) → PlacesWords κs t len (Err q) → OneOf (5 ∷ 6 ∷ 7 ∷ 16 ∷ []) (refusal_number q)
unfolding places_words_answer words_for
room-numbers κs t len q a =
    let e : refusal_number q ≡ (places_words_answer t.now len).number = ap (λ (s : Answer). s.number) a.answers in
    not-zero (5 ∷ 6 ∷ 7 ∷ 16 ∷ []) (refusal_number q) a.numbered
    (rw e (unless-one (5 ∷ 6 ∷ 7 ∷ []) (16 ∷ 0 ∷ []) (header_result t.now) (words_for (at.text_length t.now) len) (header-one t.now)
    (unless-one (16 ∷ []) (0 ∷ []) _ _ (asks-one ((16, leb 1 len && leb len max_pattern) ∷ [])) (inl refl))))
