-- One pass over the text: how far the table is filled where the text was read up to a place.
use Rattle.std.specs.Prelude.{List, Option, Some, None, ◌++◌, true, cond, ◌≡◌, ℕ, ◌+◌, ◌-◌, ◌≤◌, ◌<◌, length, get_or, take, drop, set, ltb, eqb}
use Rattle.format.specs.Layout as at
use Rattle.format.specs.TreeReading.{text_of}
use Rattle.format.specs.Answers.{paths_hold}
use Rattle.search_byte.specs.FirstByte.{Without}
use Rattle.search_kmp.specs.Borders.{Longest, Next}
use Rattle.query_places.specs.declared.pattern_seek.Progress.{Progress}
use Rattle.query_places.specs.Places.{occurs_at, places_below, places_of}

-- The figures stay within what was read.
pub record Even (P : List ℕ) (m : Progress) : Type 0 where
  pub short : m.state ≤ length P
  pub state_low : m.state ≤ m.place.0
  pub found_low : m.found ≤ m.place.0

-- The result of one more byte: if the state is the whole pattern, a place was found, and it is written if there is room.
pub record Stepped (P : List ℕ) (byte room : ℕ) (m : Progress) (before : List ℕ) (r : Progress) (after : List ℕ) : Type 0 where
  pub next : Next P m.state byte r.state
  pub even : Even P r
  pub place_is : r.place.0 ≡ m.place.0 + 1
  pub found-is : r.found ≡ cond (eqb r.state (length P)) (m.found + 1) m.found
  pub table_is : after ≡ cond (eqb r.state (length P)) (cond (ltb m.found room) (set before m.found (m.place.0 + 1 - length P)) before) before

-- k bytes are skipped from state s: none unless s is 0, and the pattern begins with none of them.
pub record Skips (P t : List ℕ) (from s k : ℕ) : Type 0 where
  pub idle : 0 < s → k ≡ 0
  pub others : Without t from k (get_or P 0 0)

-- The table starts with the first `room` of the numbers.
unfoldable pub filled : List ℕ → ℕ → List ℕ → List ℕ
filled ps room before = take room ps ++ drop (length (take room ps)) before

module _ (t P : List ℕ) where
  -- The places whose bytes are all among the first i bytes.
  unfoldable pub so_far : ℕ → List ℕ
  so_far i = places_below (i + 1 - length P) (occurs_at P (text_of t))

  pub record Seeking (room : ℕ) (before : List ℕ) (m : Progress) (table : List ℕ) : Type 0 where
    pub in_text : m.place.0 ≤ at.text_length t
    pub fits : room ≤ length before
    pub longest : Longest P (λ p. get_or (text_of t) p 0) 0 m.place.0 m.state
    pub found-is : m.found ≡ length (so_far m.place.0)
    pub table_is : table ≡ filled (so_far m.place.0) room before

  -- Up to n bytes were read without completing a place.
  pub record ReadsMatching (n : ℕ) (m r : Progress) : Type 0 where
    pub least : m.place.0 ≤ r.place.0
    pub most : r.place.0 ≤ m.place.0 + n
    pub even : Even P r
    pub on : (room : ℕ) (before table : List ℕ) → Seeking room before m table → Seeking room before r table

  -- The result of the whole pass.
  pub record SeekAnswer (room : ℕ) (before : List ℕ) (r : Option ℕ) (after : List ℕ) : Type 0 where
    pub answers : r ≡ cond (paths_hold t 0 (at.text_length t)) (Some (length (places_of t P))) None
    pub table_is : paths_hold t 0 (at.text_length t) ≡ true → after ≡ filled (places_of t P) room before
