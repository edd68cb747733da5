-- The guide as a list of words: its length, its entries and its size; and what an accepted guide is.
use mathlib.Core.List.{List, [], append-nil}
use mathlib.Core.Bool.{true, false, cond}
use mathlib.Core.Path.{◌≡◌, refl, sym, ap, ◌∙◌}
use Prim.Native.Nat.{ℕ, suc, ◌+◌, ◌*◌, ◌/◌, ◌%◌, ◌≤◌, ◌<◌}
use native.Mathlib.Omega.{arith}
use lib.ListN.{length, get_or}
use lib.Dec.{eqb}
use borrow.Author.Tests.{eq-eqb, eqb-true}
use Rattle.text.specs.Text.{tabulate, concat, sum_below, same_list}
use Rattle.text.specs.ListLaws.{length-tabulate, get_or-tabulate, sum_below-ext, sum_below-suc, sum_below-part, same_list-true}
use Rattle.format.specs.Layout.{word_at, words_bytes, pieces, max_text}
use Rattle.format.specs.WordLaws.{length-words}
use Rattle.format.proofs.WordTheorems.{word-at}
use Rattle.format.specs.PieceLaws.{pieces-start, lt-pieces}
use Rattle.format.specs.Layout as at
use Rattle.format.specs.TreeReading.{ask, header_result, check_result}
use Rattle.format.specs.Answers.{refused, total}
use Rattle.format.specs.AnswerLaws.{unless-refused}
use Rattle.theory_built.specs.Gather.{placed, length-concat, get_or-concat}
use Rattle.query_guide.specs.Guides.{last_entry, block_of, entries_of, entries_before, guide_words}
use Rattle.query_guide.specs.Guides.{guide_of, guide_bytes, guide_refusal, listed_every, guide_words_answer}
use Rattle.query_guide.proofs.Holders.{block-few}

-- Entries, of a total.
pub whole-entries : (x : ℕ) → x % listed_every ≡ 0 → x / listed_every ≡ pieces x listed_every
unfolding pieces
whole-entries x e = omega arith

pub begun-entries : (x : ℕ) → (x % listed_every ≡ 0 → ⊥) → x / listed_every + 1 ≡ pieces x listed_every
unfolding pieces
begun-entries x e = omega (arith, e)

module _ (t : List ℕ) where
  part : ℕ → List ℕ
  part c = tabulate (entries_of t c) (λ e. block_of t c (listed_every * e + 1))

  part_length : (c : ℕ) → length (part c) ≡ entries_of t c
  unfolding part
  part_length c = length-tabulate (entries_of t c) (λ e. block_of t c (listed_every * e + 1))

  parts-before : (c : ℕ) → sum_below c (λ i. length (part i)) ≡ entries_before t c
  unfolding entries_before
  parts-before c = sum_below-ext c (λ i. length (part i)) (entries_of t) (λ i _. part_length i)

  pub guide-length : length (guide_of t) ≡ guide_words t
  unfolding guide_words guide_of part
  guide-length = length-concat (at.counted_count t) part ∙ parts-before (at.counted_count t)

  pub guide-size : length (guide_bytes t) ≡ 4 * guide_words t
  unfolding guide_bytes
  guide-size = length-words (guide_of t) ∙ ap (λ (n : ℕ). 4 * n) guide-length

  module _ (c e : ℕ) (hc : c < at.counted_count t) (he : e < entries_of t c) where
    pub guide-entry : get_or (guide_of t) (entries_before t c + e) 0 ≡ block_of t c (listed_every * e + 1)
    unfolding guide_of part
    guide-entry =
        ap (λ (k : ℕ). get_or (concat (tabulate (at.counted_count t) part)) (k + e) 0) (sym (parts-before c))
        ∙ get_or-concat (at.counted_count t) part c e 0 hc (rw (part_length c) he)
        ∙ get_or-tabulate (entries_of t c) (λ e. block_of t c (listed_every * e + 1)) e 0 he

    pub entry-below : entries_before t c + e < length (guide_of t)
    unfolding entries_before guide_words
    entry-below = omega (arith, guide-length, sum_below-part (at.counted_count t) (entries_of t) c hc)

    -- The occurrence that it lists is in the text.
    pub entry-in-total : listed_every * e + 1 ≤ total t c
    unfolding entries_of
    entry-in-total = omega (arith, pieces-start (total t c) listed_every e he (omega arith))

  -- The words of a counted byte end within the guide.
  pub part-ends : (c place count : ℕ) → c < at.counted_count t → place ≡ entries_before t c → count ≡ entries_of t c → place + count ≤ guide_words t
  unfolding entries_before guide_words
  part-ends c place count l ep ec = omega (arith, sum_below-part (at.counted_count t) (entries_of t) c l)

  -- The entry from which the j-th is sought exists.
  pub listed : (c j : ℕ) → 1 ≤ j → j ≤ total t c → last_entry j < entries_of t c
  unfolding entries_of
  listed c j low high = lt-pieces (total t c) listed_every (last_entry j) (omega arith) (omega arith)

  -- summed one by one
  pub none_before : 0 ≡ entries_before t 0
  unfolding entries_before sum_below
  none_before = refl

  pub one_more : (c sum n : ℕ) → sum ≡ entries_before t c → n ≡ entries_of t c → sum + n ≡ entries_before t (c + 1)
  unfolding entries_before
  one_more c sum n e f = rw (e, f) (sym (sum_below-suc c (entries_of t)))

  pub all_words : (c n : ℕ) → c ≡ at.counted_count t → n ≡ entries_before t c → n ≡ guide_words t
  unfolding guide_words
  all_words c n e f = f ∙ ap (entries_before t) e

-- The size.
pub size-unread : (t : List ℕ) (k n : ℕ) → header_result t ≡ suc k → n ≡ suc k → refused n ≡ guide_words_answer t
unfolding guide_words_answer
size-unread t k n e f = unless-refused (header_result t) k n (record { number = 0; value = guide_words t; entered = 0 }) e f

pub guide-size-is : (t : List ℕ) (n : ℕ) → header_result t ≡ 0 → n ≡ guide_words t → record { number = 0; value = n; entered = 0 } ≡ guide_words_answer t
unfolding guide_words_answer
guide-size-is t n e f = rw (e, f)

-- Word i of the words ws.
pub word_of : (ws : List ℕ) (i : ℕ) → i < length ws → get_or ws i 0 < 4294967296 → word_at (words_bytes ws) (4 * i) ≡ get_or ws i 0
word_of ws i l small =
    let e : 0 + 4 * i ≡ 4 * i = omega arith in
    ap (λ (x : List ℕ). word_at x (4 * i)) (sym (append-nil (words_bytes ws))) ∙ rw e at (word-at [] ws [] 0 i refl l small)

-- For an accepted tree.
module _ (t : List ℕ) (v : check_result t ≡ 0) where
  -- Each entry fits a word.
  entry-few : (i : ℕ) → i < length (guide_of t) → get_or (guide_of t) i 0 < max_text
  unfolding entries_before guide_words
  entry-few i l =
      let p = placed (at.counted_count t) (entries_of t) i (rw (guide-length t) at l) in
      let rank = entry-in-total t p.part p.place p.part_lt p.place_lt in
      rw (p.is, guide-entry t p.part p.place p.part_lt p.place_lt)
      (block-few t v p.part p.part_lt (listed_every * p.place + 1) (omega arith) rank)

  pub entry-word : (i : ℕ) → i < length (guide_of t) → word_at (guide_bytes t) (4 * i) ≡ get_or (guide_of t) i 0
  unfolding guide_bytes
  entry-word i l = word_of (guide_of t) i l (omega (arith, entry-few i l))

-- An accepted guide.
module _ (t guide : List ℕ) (e : guide_refusal t guide ≡ 0) where
  pub guide-checked : check_result t ≡ 0
  unfolding guide_refusal
  guide-checked = go (eqb (check_result t) 0) refl e
    where
      go : (y : _) → eqb (check_result t) 0 ≡ y → cond y (ask 24 (same_list guide (guide_bytes t)) 0) (check_result t) ≡ 0 → check_result t ≡ 0
      go true q z = eqb-true _ _ q
      go false q z = z

  pub guide-same : guide ≡ guide_bytes t
  unfolding guide_refusal
  guide-same = go (same_list guide (guide_bytes t)) refl (rw (eq-eqb (check_result t) 0 guide-checked) at e)
    where
      go : (y : _) → same_list guide (guide_bytes t) ≡ y → ask 24 y 0 ≡ 0 → guide ≡ guide_bytes t
      go true q z = same_list-true guide (guide_bytes t) q
      go false q z = absurd (let w : ⊥ = omega arith in w)
