-- The worked book and the marked cases of docs/FORMAT.md, "Example", two more texts and the empty one, computed from the definitions. Trees have layout 2
-- unless stated otherwise.
use Rattle.std.specs.Prelude.{true, false, List, [], ◌∷◌, ◌++◌, ◌≡◌, refl, ℕ, length, replicate, take, drop}
use Rattle.std.proofs.Math.Option.{some}
use Rattle.std.proofs.Common.{arith}
use Rattle.text.specs.Text.{tabulate, concat, sum_below, count_below, all_below, same_list, substring, leftmost, first_from, count_in, place_of, place_in}
use Rattle.format.specs.Layout.{set_word, word_at, words_bytes, word_bytes}
use Rattle.format.specs.Layout.{Settings, block_length, pieces, record_length, length_ok, sizes_ok, counted_ok, rising, rising_after, edges_of, filled_out}
use Rattle.format.specs.Blocks.{tree_of, header, leaf_bytes, level_pairs, record_bytes, level_bytes, record_in, record_of, target, occurrence, width}
use Rattle.format.specs.Blocks.{is_kept, starts_at, cut, kept_by_pairs, first_pair_at, pair_at, length_of, start_of}
use Rattle.format.specs.Layout as at
use Rattle.format.specs.TreeReading.{path_of, path_from, visit, target_place, target_block, pointing_block, is_kept_block, resolves, resolved_block, resolved_place}
use Rattle.format.specs.TreeReading.{resolved_visits}
use Rattle.format.specs.TreeReading.{short_of, short_from, by_edges, in_one_leaf}
use Rattle.format.specs.TreeReading.{links_ok, text_of, counts_true, edges_true, block_edges_true, last_level, width_at, kept_right, pointing_right}
use Rattle.format.specs.FittingText.{fits, block_fits}
use Rattle.format.specs.TreeReading.{block_right, count_below_right, block_counts_true, check_result, header_result}
use Rattle.format.specs.Answers.{Answer, byte_answer, run_answer, span_questions, buffer_after}
use Rattle.format.specs.Answers.{is_short, span_reached, span_bytes, span_blocks, span_refusal, span_answer}
use Rattle.format.specs.Answers.{span_buffer, left_over, paths_hold}
use Rattle.format.specs.Answers.{count_answer, index_of, added, added_after, taken, taken_after, last_place, leaves_reached, is_counted, number_of_byte}
use Rattle.format.specs.Answers.{find_refusal, total, found}
use Rattle.format.specs.FindAnswerLaws.{FindAnswers}

book : List ℕ
book = 81 ∷ 65 ∷ 66 ∷ 67 ∷ 68 ∷ 65 ∷ 66 ∷ 67 ∷ 68 ∷ 69 ∷ 70 ∷ 71 ∷ 65 ∷ 66 ∷ 67 ∷ 68 ∷ 65 ∷ 66 ∷ 67 ∷ 68 ∷ []

two : Settings
two = record { leaf = 2; arity = 2; levels = 2; counted = 65 ∷ [] }

plain : Settings
plain = record { leaf = 2; arity = 2; levels = 2; counted = [] }

-- Settings without counted bytes.
shape : ℕ → ℕ → ℕ → Settings
shape m r levels = record { leaf = m; arity = r; levels = levels; counted = [] }

abcd : List ℕ
abcd = 65 ∷ 66 ∷ 67 ∷ 68 ∷ 65 ∷ 66 ∷ 67 ∷ 68 ∷ 65 ∷ []

answered : ℕ → ℕ → ℕ → Answer
answered q v e = record { number = q; value = v; entered = e }

-- A span: its refusal, its length, the blocks entered, and a buffer of three bytes 1 afterwards.
spanned : List ℕ → ℕ → ℕ → Answer × List ℕ
spanned t p len = (span_answer t p len 3, span_buffer t p len (1 ∷ 1 ∷ 1 ∷ []))

-- The book's tree with kind 2 in blocks 0 and 1 of level 0, and with another start in block 0.
other-kinds : List ℕ
other-kinds = set_word (set_word (tree_of two book) 104 2) 136 2

other-start : List ℕ
other-start = set_word (tree_of two book) 100 18

-- The book's tree with kind 2 in its pointing block, block 4 of level 0, and in block 0 of the last level.
pointing-two : List ℕ
pointing-two = set_word (tree_of two book) 232 2

leaf-two : List ℕ
leaf-two = set_word (tree_of two book) 264 2

-- The book with other bytes in the pointing block, and with another first byte.
other-end : List ℕ
other-end = take 16 book ++ 87 ∷ 88 ∷ 89 ∷ 90 ∷ []

other-first : List ℕ
other-first = 90 ∷ drop 1 book

-- The words of the records of level l.
words : Settings → List ℕ → ℕ → List ℕ
words S T l = concat (tabulate (length (starts_at S T l)) (record_of S T l (starts_at S T l)))

-- The trees of the book and of twelve letters A in layout 1: the header's words, the records without edges, the leaf bytes.
older : List ℕ
older =
    words_bytes (1 ∷ 20 ∷ 2 ∷ 2 ∷ 2 ∷ 1 ∷ 65 ∷ 5 ∷ 100 ∷ 8 ∷ 240 ∷ []) ++ replicate
    48 0 ++ words_bytes (464 ∷ 16 ∷ words two book 0 ++ words two book 1) ++ take 16 book

older-twelve : List ℕ
older-twelve =
    let twelve : List ℕ = replicate 12 65 in
    words_bytes (1 ∷ 12 ∷ 2 ∷ 2 ∷ 2 ∷ 0 ∷ 0 ∷ 3 ∷ 100 ∷ 4 ∷ 148 ∷ []) ++ replicate
    48 0 ++ words_bytes (212 ∷ 8 ∷ words plain twelve 0 ++ words plain twelve 1) ++ replicate 8 65

-- The table: the worked book's level 0 and where the rest of its tree lies, M1 to M10, the path of place 18, the text read back
-- and the result of the check; edges and short spans; and the book's tree in layout 1.
pub record Marked : Type 0 where
  level0 : tabulate 5 (record_of two book 0 (starts_at two book 0)) ≡
      (0 ∷ 0 ∷ 0 ∷ 0 ∷ 0 ∷ 1 ∷ 0 ∷ [])
      ∷ (4 ∷ 0 ∷ 2 ∷ 0 ∷ 1 ∷ 1 ∷ 0 ∷ [])
      ∷ (8 ∷ 0 ∷ 4 ∷ 0 ∷ 2 ∷ 0 ∷ 0 ∷ [])
      ∷ (12 ∷ 0 ∷ 6 ∷ 0 ∷ 2 ∷ 1 ∷ 0 ∷ [])
      ∷ (16 ∷ 1 ∷ 0 ∷ 1 ∷ 3 ∷ 1 ∷ 0 ∷ []) ∷ []
  level1 : (at.level_count (tree_of two book) 1 ≡ 8) × (at.level_offset (tree_of two book) 1 ≡ 260)
  leaves : drop 516 (tree_of two book) ≡ take 16 book
  m1 : length (tree_of two book) ≡ 532
  m2 : byte_answer (tree_of two book) 18 ≡ answered 0 67 3
  m3 : byte_answer (tree_of two book) 19 ≡ answered 0 68 3
  m4 : count_answer (tree_of two book) 65 17 ≡ answered 0 4 3
  m5 : count_answer (tree_of two book) 65 0 ≡ answered 0 0 0
  m6 : (s : Answer) → FindAnswers (tree_of two book) 65 4 s → s ≡ answered 0 16 3
  m7 : (s : Answer) → FindAnswers (tree_of two book) 65 5 s → s ≡ answered 12 0 0
  m8 : (run_answer (tree_of two book) 17 ≡ (518, 2)) × (substring (tree_of two book) 518 2 ≡ 66 ∷ 67 ∷ [])
  m9 : (length (tree_of plain (replicate 12 65)) ≡ 248)
      × (record_of plain (replicate 12 65) 0 (starts_at plain (replicate 12 65) 0) 2 ≡ 8 ∷ 1 ∷ 0 ∷ 0 ∷ [])
  m10 : (at.block_length_at (tree_of two abcd) 0 2 ≡ 1) × (record_of two abcd 0 (starts_at two abcd 0) 2 ≡ 8 ∷ 1 ∷ 0 ∷ 0 ∷ 2 ∷ 1 ∷ 0 ∷ [])
  path : path_of (tree_of two book) 18 ≡ some (record { visits = visit 0 4 2 ∷ visit 0 0 3 ∷ visit 1 1 1 ∷ []; leaf = 3 })
  text : text_of (tree_of two book) ≡ book
  accepted : check_result (tree_of two book) ≡ 0
  -- The edges of block 0, QABC, and of M10's last block, of one byte.
  edges : (substring (tree_of two book) 128 4 ≡ 81 ∷ 65 ∷ 66 ∷ 67 ∷ []) × (substring (tree_of two abcd) 192 4 ≡ 65 ∷ 0 ∷ 65 ∷ 0 ∷ [])
  -- Over a level 0 border; over a border of level 1; in a leaf; through a pointing block, and over the border of its two targets.
  over_top : spanned (tree_of two book) 3 2 ≡ (answered 0 2 2, 67 ∷ 68 ∷ 1 ∷ [])
  over_child : spanned (tree_of two book) 1 2 ≡ (answered 0 2 3, 65 ∷ 66 ∷ 1 ∷ [])
  in_leaf : spanned (tree_of two book) 2 2 ≡ (answered 0 2 2, 66 ∷ 67 ∷ 1 ∷ [])
  pointed : spanned (tree_of two book) 16 2 ≡ (answered 0 2 4, 65 ∷ 66 ∷ 1 ∷ [])
  over_targets : spanned (tree_of two book) 18 2 ≡ (answered 0 2 3, 67 ∷ 68 ∷ 1 ∷ [])
  -- No kind is read over a border, where bytes and a span in one block are refused; nor is a start, the left block being full.
  kinds_unread : (spanned other-kinds 3 2 ≡ (answered 0 2 2, 67 ∷ 68 ∷ 1 ∷ [])) × (byte_answer other-kinds 3 ≡ answered 14 0 0)
      × (byte_answer other-kinds 4 ≡ answered 14 0 0)
  kind_read : spanned other-kinds 0 2 ≡ (answered 14 0 0, 0 ∷ 0 ∷ 1 ∷ [])
  start_unread : spanned other-start 3 2 ≡ (answered 0 2 2, 67 ∷ 68 ∷ 1 ∷ [])
  -- Which texts fit: a block of kind 2 above the last level is not compared with its target's bytes, one of the last level is with its leaf bytes.
  kind_two : (block_fits other-end pointing-two 0 4 ≡ true) × (fits other-end pointing-two ≡ true) × (fits other-end (tree_of two book) ≡ false)
  kind_two_last : (fits book leaf-two ≡ true) × (block_fits other-first leaf-two 1 0 ≡ false) × (fits other-first leaf-two ≡ false)
  -- longer than m; of no bytes; past the end; without room
  by_paths : spanned (tree_of two book) 0 3 ≡ (answered 0 3 0, 81 ∷ 65 ∷ 66 ∷ [])
  no_bytes : spanned (tree_of two book) 20 0 ≡ (answered 0 0 0, 1 ∷ 1 ∷ 1 ∷ [])
  past_end : spanned (tree_of two book) 19 2 ≡ (answered 10 0 0, 1 ∷ 1 ∷ 1 ∷ [])
  no_room : spanned (tree_of two book) 0 4 ≡ (answered 13 0 0, 1 ∷ 1 ∷ 1 ∷ [])
  -- layout 1 is read and checked as before, and its spans report 0
  older_read : (length older ≡ 480) × (text_of older ≡ book) × (check_result older ≡ 0)
  older_bytes : (byte_answer older 18 ≡ answered 0 67 3) × (byte_answer older 19 ≡ answered 0 68 3) × (run_answer older 17 ≡ (466, 2))
      × (substring older 466 2 ≡ 66 ∷ 67 ∷ [])
  older_counts : (count_answer older 65 17 ≡ answered 0 4 3) × (count_answer older 65 0 ≡ answered 0 0 0) × (found older 65 4 ≡ answered 0 16 3)
      × (find_refusal older 65 5 ≡ 12)
  older_span : spanned older 3 2 ≡ (answered 0 2 0, 67 ∷ 68 ∷ 1 ∷ [])
  older_m9 : (length older-twelve ≡ 220) × (text_of older-twelve ≡ replicate 12 65) × (check_result older-twelve ≡ 0)
  -- The longest text, and the longest block of level 0: 256 × 8^5, 128 × 16^4.
  longest : (length_ok 8388608 ≡ true) × (length_ok 8388609 ≡ false)
  largest_blocks : (sizes_ok (shape 256 8 6) ≡ true) × (sizes_ok (shape 128 16 5) ≡ true) × (sizes_ok (shape 256 16 4) ≡ true)
  blocks_too_large : (sizes_ok (shape 256 8 7) ≡ false) × (sizes_ok (shape 129 16 5) ≡ false) × (sizes_ok (shape 256 16 5) ≡ false)

pub marked : Marked
unfolding shape spanned other-kinds other-start pointing-two leaf-two other-end other-first words older older-twelve abcd answered book two plain tabulate
    concat sum_below count_below all_below same_list set_word word_at words_bytes word_bytes substring leftmost first_from count_in place_of place_in block_length pieces
    length_ok sizes_ok counted_ok rising rising_after tree_of header leaf_bytes level_pairs record_bytes record_length edges_of filled_out level_bytes record_in record_of
    target occurrence width is_kept starts_at cut kept_by_pairs first_pair_at pair_at length_of start_of path_of path_from target_place target_block pointing_block is_kept_block
    resolves resolved_block resolved_place resolved_visits short_of short_from by_edges in_one_leaf links_ok text_of fits counts_true edges_true block_edges_true last_level
    width_at kept_right pointing_right block_right count_below_right block_fits block_counts_true check_result header_result at.leaf_byte byte_answer count_answer run_answer
    span_questions buffer_after is_short span_reached span_bytes span_blocks span_refusal span_answer span_buffer find_refusal index_of left_over paths_hold added added_after
    taken taken_after last_place leaves_reached is_counted number_of_byte total found at.block_length_at at.level_count at.level_offset at.layout at.text_length
    at.counted_count at.settings at.leaf_offset at.leaf_count at.record_size at.field at.start at.kind at.link at.gap at.before at.inside at.skip at.edges_at
    at.full_length at.is_kept at.is_pointing at.has_edges at.holds_header at.layout_ok at.is_header_ok
marked = record {
  level0 = refl;
  level1 = (refl, refl);
  leaves = refl;
  m1 = refl;
  m2 = refl;
  m3 = refl;
  m4 = refl;
  m5 = refl;
  m6 = λ s says. says.accepted refl refl;
  m7 = λ s says. says.asked (omega arith);
  m8 = (refl, refl);
  m9 = (refl, refl);
  m10 = (refl, refl);
  path = refl;
  text = refl;
  accepted = refl;
  edges = (refl, refl);
  over_top = refl;
  over_child = refl;
  in_leaf = refl;
  pointed = refl;
  over_targets = refl;
  kinds_unread = (refl, refl, refl);
  kind_read = refl;
  start_unread = refl;
  kind_two = (refl, refl, refl);
  kind_two_last = (refl, refl, refl);
  by_paths = refl;
  no_bytes = refl;
  past_end = refl;
  no_room = refl;
  older_read = (refl, refl, refl);
  older_bytes = (refl, refl, refl, refl);
  older_counts = (refl, refl, refl, refl);
  older_span = refl;
  older_m9 = (refl, refl, refl);
  longest = (refl, refl);
  largest_blocks = (refl, refl, refl);
  blocks_too_large = (refl, refl, refl);
}

-- A header with n 0 and the settings `two`, with given block counts of levels 0 and 1, and leaf bytes from `leaf` on; then the rest.
laid_out : ℕ → ℕ → ℕ → ℕ → List ℕ → List ℕ
laid_out first second leaf leaves rest =
    words_bytes (1 ∷ 0 ∷ 2 ∷ 2 ∷ 2 ∷ 1 ∷ 65 ∷ first ∷ 100 ∷ second ∷ 100 ∷ []) ++ replicate 48 0 ++ words_bytes (leaf ∷ leaves ∷ []) ++ rest

no-bytes-tree : List ℕ
no-bytes-tree = tree_of two []

-- The tree of the empty text: only the header.
pub record Empty : Type 0 where
  bytes : no-bytes-tree ≡
      words_bytes (2 ∷ 0 ∷ 2 ∷ 2 ∷ 2 ∷ 1 ∷ 65 ∷ 0 ∷ 100 ∷ 0 ∷ 100 ∷ []) ++ replicate 48 0 ++ words_bytes (100 ∷ 0 ∷ [])
  size : length no-bytes-tree ≡ 100
  accepted : check_result no-bytes-tree ≡ 0
  text : text_of no-bytes-tree ≡ []
  no_byte : (byte_answer no-bytes-tree 0 ≡ answered 10 0 0) × (run_answer no-bytes-tree 0 ≡ (0, 0))
  spans : (spanned no-bytes-tree 0 0 ≡ (answered 0 0 0, 1 ∷ 1 ∷ 1 ∷ [])) × (spanned no-bytes-tree 0 1 ≡ (answered 10 0 0, 1 ∷ 1 ∷ 1 ∷ []))
      × (spanned no-bytes-tree 1 0 ≡ (answered 10 0 0, 1 ∷ 1 ∷ 1 ∷ []))
  counts : (count_answer no-bytes-tree 65 0 ≡ answered 0 0 0) × (count_answer no-bytes-tree 65 1 ≡ answered 10 0 0)
      × (count_answer no-bytes-tree 66 0 ≡ answered 11 0 0)
  totals : (total no-bytes-tree 0 ≡ 0) × (find_refusal no-bytes-tree 65 0 ≡ 12) × (find_refusal no-bytes-tree 65 1 ≡ 12)
  -- In layout 1; a leaf byte; a block on level 1, whose before and inside are no total; a block on level 0.
  older_empty : check_result (laid_out 0 0 100 0 []) ≡ 0
  leaf-byte : check_result (laid_out 0 0 100 1 (65 ∷ [])) ≡ 8
  child : (check_result (laid_out 0 1 128 0 (words_bytes (0 ∷ 0 ∷ 0 ∷ 0 ∷ 3 ∷ 5 ∷ 0 ∷ []))) ≡ 8)
      × (find_refusal (laid_out 0 1 128 0 (words_bytes (0 ∷ 0 ∷ 0 ∷ 0 ∷ 3 ∷ 5 ∷ 0 ∷ []))) 65 1 ≡ 12)
  block : check_result (laid_out 1 0 128 0 (replicate 28 0)) ≡ 7

pub empty : Empty
unfolding spanned no-bytes-tree laid_out answered two tabulate concat sum_below count_below all_below same_list set_word word_at words_bytes word_bytes substring
    leftmost first_from count_in place_of place_in block_length pieces length_ok sizes_ok counted_ok rising rising_after tree_of header leaf_bytes level_pairs record_bytes
    record_length edges_of filled_out level_bytes record_in record_of target occurrence width is_kept starts_at cut kept_by_pairs first_pair_at pair_at length_of start_of
    path_of path_from target_place target_block pointing_block is_kept_block resolves resolved_block resolved_place resolved_visits short_of short_from by_edges in_one_leaf links_ok
    text_of fits counts_true edges_true block_edges_true last_level width_at kept_right pointing_right block_right count_below_right block_fits block_counts_true check_result
    header_result at.leaf_byte byte_answer count_answer run_answer span_questions buffer_after is_short span_reached span_bytes span_blocks span_refusal span_answer
    span_buffer find_refusal index_of left_over paths_hold added added_after taken taken_after last_place leaves_reached is_counted number_of_byte total found
    at.block_length_at at.level_count at.level_offset at.layout at.text_length at.counted_count at.settings at.leaf_offset at.leaf_count at.record_size at.field at.start
    at.kind at.link at.gap at.before at.inside at.skip at.edges_at at.full_length at.is_kept at.is_pointing at.has_edges at.holds_header at.layout_ok at.is_header_ok
empty = record {
  bytes = refl;
  size = refl;
  accepted = refl;
  text = refl;
  no_byte = (refl, refl);
  spans = (refl, refl, refl);
  counts = (refl, refl, refl);
  totals = (refl, refl, refl);
  older_empty = refl;
  leaf-byte = refl;
  child = (refl, refl);
  block = refl;
}
