-- Guides, and what their calls return.
-- docs/FORMAT.md: "Guides".
use Rattle.std.specs.Prelude.{List, [], ◌∷◌, ◌++◌, cond, ℕ, ◌+◌, ◌-◌, ◌*◌, ◌/◌, length, get_or, drop, leb, eqb, Result, Ok, Err}
use Rattle.text.specs.Text.{tabulate, concat, sum_below, same_list, place_of}
use Rattle.format.specs.Layout.{words_bytes, pieces}
use Rattle.format.specs.Layout as at
use Rattle.format.specs.TreeReading.{text_of, asks, or_next, header_result, check_result}
use Rattle.format.specs.Answers.{Answer, unless, Reply, figures, refusal, total}
use Rattle.refusals.specs.declared.Refusal.{Refusal}
use Rattle.refusals.specs.Refusals.{refusal_number}

-- Guides (sampled select directories): for each counted byte one word for every 64 occurrences, the number of the level 0 block that contains the first of
-- them. And what the calls return that check a guide, make one and give its size.
-- docs/FORMAT.md: "Guides".

-- The sampling rate: the 1st, 65th, 129th occurrence, and so on, have an entry.
abbrev pub listed_every : ℕ
listed_every = 64

-- The entry of its byte from which the search for the j-th occurrence starts.
abbrev pub last_entry : ℕ → ℕ
last_entry j = (j - 1) / listed_every

-- The occurrence that this entry is for: the last sampled one up to j.
abbrev pub last_listed : ℕ → ℕ
last_listed j = listed_every * last_entry j + 1

module _ (t : List ℕ) where
  -- The number of the level 0 block that contains the j-th occurrence of counted byte number c.
  unfoldable pub block_of : ℕ → ℕ → ℕ
  block_of c j = place_of (get_or (at.settings t).counted c 0) j (text_of t) / at.full_length t 0

  -- The number of entries of counted byte number c: its total / 64, rounded up.
  unfoldable pub entries_of : ℕ → ℕ
  entries_of c = pieces (total t c) listed_every

  -- The number of entries of the counted bytes before number c.
  unfoldable pub entries_before : ℕ → ℕ
  entries_before c = sum_below c entries_of

  -- The number of words of the guide.
  unfoldable pub guide_words : ℕ
  guide_words = entries_before (at.counted_count t)

  -- The entries of the guide of a valid tree.
  unfoldable pub guide_of : List ℕ
  guide_of = concat (tabulate (at.counted_count t) (λ c. tabulate (entries_of c) (λ e. block_of c (listed_every * e + 1))))

  -- The entries as bytes.
  unfoldable pub guide_bytes : List ℕ
  guide_bytes = words_bytes guide_of

  -- The result of checking a guide: questions 5 to 9 for the tree, then 24 for the length and each entry of the guide.
  unfoldable pub guide_refusal : List ℕ → ℕ
  guide_refusal guide = or_next (check_result t) (asks ((24, same_list guide guide_bytes) ∷ []))

  -- The size of a guide in words, or a refusal by questions 5 to 7.
  unfoldable pub guide_words_answer : Answer
  guide_words_answer = unless (header_result t) (record { number = 0; value = guide_words; entered = 0 })

  -- Making a guide in the caller's table: refused by questions 5 to 9, then 25.
  module _ (table : List ℕ) where
    -- The refusal of make_guide.
    unfoldable pub make_guide_refusal : ℕ
    make_guide_refusal = or_next (check_result t) (asks ((25, leb (length guide_bytes) (length table)) ∷ []))

    -- The number of words written, or the refusal.
    unfoldable pub make_guide_answer : Answer
    make_guide_answer = unless make_guide_refusal (record { number = 0; value = guide_words; entered = 0 })

    -- The table afterwards: the guide at its start; unchanged if refused.
    unfoldable pub make_guide_buffer : List ℕ
    make_guide_buffer = cond (eqb make_guide_refusal 0) (guide_bytes ++ drop (length guide_bytes) table) table

-- The answers of the calls on guides by their refusals and figures.

-- How many words, or the number of the question that refuses.
abbrev pub guide_words_reply : Result ℕ Refusal → Reply
guide_words_reply (Ok n) = figures n 0
guide_words_reply (Err e) = refusal (refusal_number e)
