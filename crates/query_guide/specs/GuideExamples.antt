-- Guides of small trees, computed from the definitions.
use Rattle.std.specs.Prelude.{List, [], ◌∷◌, ◌≡◌, refl, ℕ, ◌-◌, replicate, take}
use Rattle.text.specs.Text.{tabulate, concat, sum_below, count_below, all_below, same_list, substring, leftmost, first_from, count_in, place_of, place_in}
use Rattle.format.specs.Layout.{word_at, words_bytes, word_bytes, set_word, block_length, pieces, record_length, length_ok, sizes_ok, counted_ok, rising, rising_after}
use Rattle.format.specs.Layout.{edges_of, filled_out}
use Rattle.format.specs.Blocks.{tree_of, header, leaf_bytes, level_pairs, record_bytes, level_bytes, record_in, record_of, target, occurrence, width, is_kept}
use Rattle.format.specs.Blocks.{starts_at, cut, kept_by_pairs, first_pair_at, pair_at, length_of, start_of}
use Rattle.format.specs.Layout as at
use Rattle.format.specs.TreeReading.{path_of, path_from, target_place, target_block, pointing_block, is_kept_block, resolves, resolved_block, resolved_place}
use Rattle.format.specs.TreeReading.{resolved_visits}
use Rattle.format.specs.TreeReading.{short_of, short_from, by_edges, in_one_leaf}
use Rattle.format.specs.TreeReading.{links_ok, text_of, counts_true, edges_true, block_edges_true, last_level, width_at, kept_right, pointing_right, block_right}
use Rattle.format.specs.FittingText.{fits, block_fits}
use Rattle.format.specs.TreeReading.{count_below_right, block_counts_true, check_result, header_result}
use Rattle.format.specs.Answers.{Answer, total}
use Rattle.query_guide.specs.Guides.{last_listed, block_of, entries_of, entries_before, guide_words, guide_of, guide_bytes, guide_refusal, guide_words_answer}
use Rattle.query_guide.specs.Guides.{make_guide_refusal, make_guide_answer, make_guide_buffer}

guide-book : List ℕ
guide-book = 81 ∷ 65 ∷ 66 ∷ 67 ∷ 68 ∷ 65 ∷ 66 ∷ 67 ∷ 68 ∷ 69 ∷ 70 ∷ 71 ∷ 65 ∷ 66 ∷ 67 ∷ 68 ∷ 65 ∷ 66 ∷ 67 ∷ 68 ∷ []

-- The tree of one level: its blocks have b bytes.
blocks : ℕ → List ℕ → List ℕ → List ℕ
blocks b cs T = tree_of (record { leaf = b; arity = 2; levels = 1; counted = cs }) T

W : List ℕ
W = tree_of (record { leaf = 2; arity = 2; levels = 2; counted = 65 ∷ [] }) guide-book

-- A and B by turns.
both : ℕ → List ℕ
both n = concat (tabulate n (λ i. 65 ∷ 66 ∷ []))

guide-answered : ℕ → ℕ → Answer
guide-answered q v = record { number = q; value = v; entered = 0 }

pub record GuideMarked : Type 0 where
  -- A occurs four times in the worked book: one entry. The fourth A, at 16 in block 4, is four steps from it.
  worked : (guide_of W ≡ 0 ∷ []) × (guide_bytes W ≡ 0 ∷ 0 ∷ 0 ∷ 0 ∷ []) × (guide_words_answer W ≡ guide-answered 0 1)
      × (block_of W 0 4 - block_of W 0 (last_listed 4) ≡ 4)
  -- Another entry, three bytes, five bytes and two words are no guide of it.
  right : (guide_refusal W (0 ∷ 0 ∷ 0 ∷ 0 ∷ []) ≡ 0) × (guide_refusal W (1 ∷ 0 ∷ 0 ∷ 0 ∷ []) ≡ 24) × (guide_refusal W (0 ∷ 0 ∷ 0 ∷ 1 ∷ []) ≡ 24)
      × (guide_refusal W [] ≡ 24) × (guide_refusal W (replicate 3 0) ≡ 24) × (guide_refusal W (replicate 5 0) ≡ 24) × (guide_refusal W (replicate 8 0) ≡ 24)
  -- What lies past the words stays; three bytes are too short.
  made : (make_guide_answer W (replicate 6 7) ≡ guide-answered 0 1) × (make_guide_buffer W (replicate 6 7) ≡ 0 ∷ 0 ∷ 0 ∷ 0 ∷ 7 ∷ 7 ∷ [])
      × (make_guide_answer W (replicate 3 7) ≡ guide-answered 25 0) × (make_guide_buffer W (replicate 3 7) ≡ replicate 3 7)
  -- 200 letters A: the 1st, 65th, 129th and 193rd
  long : (guide_of (blocks 4 (65 ∷ []) (replicate 200 65)) ≡ 0 ∷ 16 ∷ 32 ∷ 48 ∷ []) × (guide_of (blocks 2 (65 ∷ []) (replicate 200 65)) ≡ 0 ∷ 32 ∷ 64 ∷ 96 ∷ [])
  -- 64 of them have one entry, 65 two
  begun : (guide_of (blocks 4 (65 ∷ []) (replicate 64 65)) ≡ 0 ∷ []) × (guide_of (blocks 4 (65 ∷ []) (replicate 65 65)) ≡ 0 ∷ 16 ∷ [])
  -- The hundredth A, in block 49, is 17 steps from the 65th, in block 32.
  seventeen : (last_listed 100 ≡ 65) × (block_of (blocks 2 (65 ∷ []) (replicate 200 65)) 0 100 ≡ 49) × (last_listed 64 ≡ 1) × (last_listed 65 ≡ 65)
  -- Two counted bytes, one after the other.
  pairs : (guide_of (blocks 2 (65 ∷ 66 ∷ []) (both 100)) ≡ 0 ∷ 64 ∷ 0 ∷ 64 ∷ []) × (entries_before (blocks 2 (65 ∷ 66 ∷ []) (both 100)) 1 ≡ 2)
  -- The empty text.
  empty : (guide_of (blocks 2 (65 ∷ []) []) ≡ []) × (guide_refusal (blocks 2 (65 ∷ []) []) [] ≡ 0)
      × (guide_refusal (blocks 2 (65 ∷ []) []) (replicate 4 0) ≡ 24) × (make_guide_answer (blocks 2 (65 ∷ []) []) [] ≡ guide-answered 0 0)
  -- None counted; none there.
  none : (guide_of (blocks 2 [] guide-book) ≡ [])
      × (guide_of (blocks 2 (90 ∷ []) guide-book) ≡ []) × (guide_refusal (blocks 2 [] guide-book) [] ≡ 0)
      × (make_guide_answer (blocks 2 [] guide-book) [] ≡ guide-answered 0 0)
  -- Trees that the check refuses: 5, and 8 before 24 and 25. The size checks only 5 to 7.
  unread : (guide_refusal (take 99 W) [] ≡ 5) × (make_guide_answer (take 99 W) [] ≡ guide-answered 5 0) × (guide_words_answer (take 99 W) ≡ guide-answered 5 0)
  unlinked : (guide_refusal (set_word W 112 1) [] ≡ 8) × (make_guide_answer (set_word W 112 1) [] ≡ guide-answered 8 0)
      × (guide_words_answer (set_word W 112 1) ≡ guide-answered 0 1)

pub guide-marked : GuideMarked
unfolding guide-book blocks W both guide-answered block_of entries_of entries_before guide_words guide_of guide_bytes guide_refusal guide_words_answer
    make_guide_refusal make_guide_answer make_guide_buffer
    total tabulate concat sum_below count_below all_below same_list set_word word_at words_bytes word_bytes substring leftmost first_from count_in place_of place_in
    block_length pieces length_ok sizes_ok counted_ok rising rising_after tree_of header leaf_bytes level_pairs record_bytes record_length edges_of filled_out
    level_bytes record_in record_of target occurrence width is_kept starts_at cut kept_by_pairs first_pair_at pair_at length_of start_of path_of path_from
    target_place target_block pointing_block is_kept_block resolves resolved_block resolved_place resolved_visits short_of short_from by_edges in_one_leaf links_ok text_of fits
    counts_true edges_true block_edges_true last_level width_at kept_right pointing_right block_right count_below_right block_fits block_counts_true check_result
    header_result at.leaf_byte at.block_length_at at.level_count at.level_offset at.full_length at.counted_count at.before at.inside at.layout at.text_length
    at.settings at.leaf_offset at.leaf_count at.record_size at.field at.start at.kind at.link at.gap at.skip at.edges_at at.is_kept at.is_pointing
    at.has_edges at.holds_header at.layout_ok at.is_header_ok
guide-marked = record {
  worked = (refl, refl, refl, refl);
  right = (refl, refl, refl, refl, refl, refl, refl);
  made = (refl, refl, refl, refl);
  long = (refl, refl);
  begun = (refl, refl);
  seventeen = (refl, refl, refl, refl);
  pairs = (refl, refl);
  empty = (refl, refl, refl, refl);
  none = (refl, refl, refl, refl);
  unread = (refl, refl, refl);
  unlinked = (refl, refl, refl);
}
