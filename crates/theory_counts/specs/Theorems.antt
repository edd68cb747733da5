-- What holds of the counts of a tree: each statement under its own sentence.
-- docs/FORMAT.md: "Question 9", "Count", "Find".
use Rattle.std.specs.Prelude.{List, true, cond, ◌≡◌, ℕ, ◌+◌, ◌-◌, ◌≤◌, ◌<◌, take, eqb}
use Rattle.std.proofs.Common.{arith}
use Rattle.text.specs.Text.{count_in, place_of}
use Rattle.text.specs.CountLaws.{Nth}
use Rattle.text.proofs.CountTheorems.{place-nth}
use Rattle.format.specs.Layout as at
use Rattle.format.specs.TreeReading.{path_of, links_ok, text_of, counts_true, header_result, check_result}
use Rattle.format.specs.CheckResultLaws.{accepted-header, accepted-links, accepted-counts}
use Rattle.format.specs.LayoutLaws.{header-facts}
use Rattle.format.specs.Answers.{is_counted, number_of_byte, count_answer, total, path_length}
use Rattle.format.specs.FindAnswerLaws.{Selected}
use Rattle.theory_paths.specs.Links.{Linked, linked-facts}
use Rattle.theory_paths.specs.OneText.{text-length}
use Rattle.theory_counts.specs.CountsLocal.{counts_local}
use Rattle.theory_counts.specs.LevelTrue.{Level, counts-facts}
use Rattle.theory_counts.specs.CountsExact as exact
use Rattle.theory_counts.specs.Ranks as ranks
use Rattle.theory_counts.specs.Finds as finds

-- Any tree that passes questions 5 to 8: the local equations that the check looks at hold exactly where the counts are true of the
-- one text that fits.
pub counts-exact : (t : List ℕ) → header_result t ≡ 0 → links_ok t ≡ true → counts_local t ≡ counts_true (text_of t) t
counts-exact t r h = exact.counts-exact t (header-facts t r) (linked-facts t h)

-- Any accepted tree.
module _ (t : List ℕ) (v : check_result t ≡ 0) where
  abbrev r : header_result t ≡ 0
  r = accepted-header t v

  abbrev d : Linked t
  d = linked-facts t (accepted-links t v)

  -- Every before, inside and skip is the number of occurrences in the part of the text that it is about.
  pub levels : (l : ℕ) → l < (at.settings t).levels → Level t l
  levels = counts-facts t (accepted-counts t v)

  -- Count is rank: it returns how often a counted byte occurs in the first i bytes of the text, and the length of the path of place i - 1 (0 for i = 0).
  pub count-of-text : (byte i : ℕ) → is_counted t byte ≡ true → i ≤ at.text_length t
      → count_answer t byte i ≡ record { number = 0; value = count_in byte (take i (text_of t)); entered = cond (eqb i 0) 0 (path_length t (path_of t (i - 1))) }
  count-of-text = ranks.count-right t r d levels

  module _ (byte : ℕ) (h : is_counted t byte ≡ true) where
    abbrev n : ranks.Counted t byte
    n = ranks.counted t (header-facts t r) byte h

    -- The total is how often the byte occurs in the text.
    pub total-of-text : total t (number_of_byte t byte) ≡ count_in byte (text_of t)
    total-of-text = rw n.byte_is at (finds.total_is t (header-facts t r) d levels (number_of_byte t byte) n.number_below)

    -- The place that a block of level 0 gives for its j-th byte, less the block's before, is the place of the j-th byte of the
    -- text, and the blocks entered on the way are those of its path.
    pub found-in-text : (i j o e : ℕ) → i < at.level_count t 0 → at.before t 0 i (number_of_byte t byte) < j
        → finds.Lands t (header-facts t r) d levels (number_of_byte t byte) n.number_below 0 i (j - at.before t 0 i (number_of_byte t byte)) o e
        → (place_of byte j (text_of t) ≡ at.start t 0 i + o) × (path_length t (path_of t (at.start t 0 i + o)) ≡ e)
    found-in-text i j o e hi low w =
        rw n.byte_is at (finds.lands-top t (header-facts t r) d levels (number_of_byte t byte) n.number_below i j o e hi low w)

  -- If questions 11 and 12 pass for find or row, the text has a j-th occurrence.
  module _ (byte j : ℕ) (s : Selected t byte j) where
    pub is-nth : Nth byte j (text_of t) 0 (place_of byte j (text_of t))
    is-nth = place-nth byte j (text_of t) s.low (rw (total-of-text byte s.counted) at s.high)

    pub place-below : place_of byte j (text_of t) < at.text_length t
    place-below = omega (arith, is-nth.within, text-length t)
