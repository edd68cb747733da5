-- The places of a pattern, and what the calls return.
-- docs/FORMAT.md: "Places".
use Rattle.std.specs.Prelude.{List, [], ◌∷◌, ◌++◌, Bool, cond, ◌&&◌, ℕ, zero, suc, ◌+◌, ◌-◌, length, drop, leb, eqb, Result, Ok, Err}
use Rattle.refusals.specs.declared.Refusal.{Refusal}
use Rattle.refusals.specs.Refusals.{refusal_number}
use Rattle.text.specs.Text.{same_list, substring}
use Rattle.format.specs.Layout as at
use Rattle.format.specs.TreeReading.{text_of, asks, or_next, header_result}
use Rattle.format.specs.Answers.{Answer, unless, Reply, figures, refusal, Is, paths_hold}

-- What places (locate) returns for any bytes given as a tree, and what the caller's table of words contains afterwards.
-- docs/FORMAT.md: "Places", "Figures and sizes".

-- Whether the pattern occurs in the text at place p.
unfoldable pub occurs_at : List ℕ → List ℕ → ℕ → Bool
occurs_at P T p = same_list (substring T p (length P)) P

-- The numbers below n at which f holds, ascending.
unfoldable pub places_below : ℕ → (ℕ → Bool) → List ℕ
places_below zero f = []
places_below (suc n) f = places_below n f ++ cond (f n) (n ∷ []) []

-- All places of the pattern in the text, ascending; occurrences may overlap.
unfoldable pub places_in : List ℕ → List ℕ → List ℕ
places_in P T = places_below (length T) (occurs_at P T)

-- The length of the longest pattern.
abbrev pub max_pattern : ℕ
max_pattern = 256

-- Question 16: a pattern has 1 to 256 bytes.
abbrev pub pattern_length : ℕ → Bool
pattern_length len = leb 1 len && leb len max_pattern

-- Question 16 for a pattern.
unfoldable pub pattern_ok : List ℕ → Bool
pattern_ok P = pattern_length (length P)

module _ (t P : List ℕ) where
  -- The places of the pattern in the bytes that the paths of the tree give.
  unfoldable pub places_of : List ℕ
  places_of = places_in P (text_of t)

  -- The refusal: questions 5 to 7, then 16, then 14 if some place has no path, then 17 if the table is too short for all places.
  unfoldable pub places_refusal : ℕ → ℕ
  places_refusal room =
      or_next (header_result t) (asks ((16, pattern_ok P) ∷ (14, paths_hold t 0 (at.text_length t)) ∷ (17, leb (length places_of) room) ∷ []))

  -- The number of places, or the refusal.
  unfoldable pub places_answer : ℕ → Answer
  places_answer room = unless (places_refusal room) (record { number = 0; value = length places_of; entered = 0 })

  -- The table afterwards: the places at its start; unchanged if refused.
  unfoldable pub places_buffer : List ℕ → List ℕ
  places_buffer table = cond (eqb (places_refusal (length table)) 0) (places_of ++ drop (length places_of) table) table

-- The number of words that are enough for the places of any pattern of len bytes in a text of n bytes: one for each place with at least len bytes after it.
-- Refused with 16.
unfoldable pub words_for : ℕ → ℕ → Answer
words_for n len = unless (asks ((16, pattern_length len) ∷ [])) (record { number = 0; value = n + 1 - len; entered = 0 })

-- The answer of places_words: questions 5 to 7 first.
unfoldable pub places_words_answer : List ℕ → ℕ → Answer
places_words_answer t len = unless (header_result t) (words_for (at.text_length t) len)

-- The answers of places and places_words by their refusals and figures (docs/FORMAT.md, "Questions and refusals").

-- How many places there are.
abbrev pub places_reply : Result ℕ Refusal → Reply
places_reply (Ok n) = figures n 0
places_reply (Err e) = refusal (refusal_number e)

-- The answer of places with a table of `room` words.
abbrev pub IsPlacesAnswer : (t P : List ℕ) (room : ℕ) → Result ℕ Refusal → Type 0
IsPlacesAnswer t P room = Is places_reply (places_answer t P room)

-- How many words a table must have.
abbrev pub places_words_reply : Result ℕ Refusal → Reply
places_words_reply (Ok n) = figures n 0
places_words_reply (Err e) = refusal (refusal_number e)

abbrev pub IsPlacesWordsAnswer : (t : List ℕ) (len : ℕ) → Result ℕ Refusal → Type 0
IsPlacesWordsAnswer t len = Is places_words_reply (places_words_answer t len)
