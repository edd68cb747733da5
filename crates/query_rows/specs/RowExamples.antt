-- The number of rows of small trees, computed from the definitions.
use Rattle.std.specs.Prelude.{List, [], ◌∷◌, ◌≡◌, refl, ℕ, take}
use Rattle.text.specs.Text.{tabulate, concat, sum_below, count_below, all_below, same_list, substring, leftmost, first_from, count_in}
use Rattle.format.specs.Layout.{set_word, word_at, words_bytes, word_bytes, block_length, pieces, record_length, length_ok, sizes_ok, counted_ok, rising, rising_after}
use Rattle.format.specs.Layout.{edges_of, filled_out}
use Rattle.format.specs.Blocks.{tree_of, header, leaf_bytes, level_pairs, record_bytes, level_bytes, record_in, record_of, target, occurrence, width, is_kept}
use Rattle.format.specs.Blocks.{starts_at, cut, kept_by_pairs, first_pair_at, pair_at, length_of, start_of}
use Rattle.format.specs.Layout as at
use Rattle.format.specs.TreeReading.{path_of, path_from, target_place, target_block, pointing_block}
use Rattle.format.specs.TreeReading.{is_kept_block, resolves, resolved_block, resolved_place, resolved_visits, header_result}
use Rattle.format.specs.Answers.{Answer, byte_answer, index_of, is_counted, number_of_byte, total}
use Rattle.query_rows.specs.RowAnswers.{row_count_refusal, last_open, row_count_answer}

row-tree : List ℕ → List ℕ → List ℕ
row-tree cs T = tree_of (record { leaf = 2; arity = 2; levels = 2; counted = cs }) T

-- AB, 10, CD, 10, EF
row-open-book : List ℕ
row-open-book = 65 ∷ 66 ∷ 10 ∷ 67 ∷ 68 ∷ 10 ∷ 69 ∷ 70 ∷ []

row-answered : ℕ → ℕ → Answer
row-answered q v = record { number = q; value = v; entered = 0 }

pub record RowMarked : Type 0 where
  open_end : row_count_answer (row-tree (10 ∷ []) row-open-book) ≡ row-answered 0 3
  ended : row_count_answer (row-tree (10 ∷ []) (65 ∷ 10 ∷ 10 ∷ [])) ≡ row-answered 0 2
  one : row_count_answer (row-tree (10 ∷ []) (65 ∷ 66 ∷ [])) ≡ row-answered 0 1
  empty : row_count_answer (row-tree (10 ∷ []) []) ≡ row-answered 0 0
  -- Byte 10 is not counted, also where there is no last byte.
  uncounted : (row_count_answer (row-tree (65 ∷ []) row-open-book) ≡ row-answered 11 0) × (row_count_answer (row-tree [] []) ≡ row-answered 11 0)
  -- Kind 2 in the block that holds the last byte.
  broken : row_count_answer (set_word (row-tree (10 ∷ []) row-open-book) 264 2) ≡ row-answered 14 0
  short : row_count_answer (take 99 (row-tree (10 ∷ []) row-open-book)) ≡ row-answered 5 0

pub row-marked : RowMarked
unfolding row-tree row-open-book row-answered row_count_refusal last_open row_count_answer tabulate concat sum_below count_below all_below same_list set_word word_at
    words_bytes word_bytes substring leftmost first_from count_in block_length pieces record_length length_ok sizes_ok counted_ok rising rising_after tree_of header
    leaf_bytes level_pairs record_bytes edges_of filled_out level_bytes record_in record_of target occurrence width is_kept starts_at cut kept_by_pairs first_pair_at pair_at
    length_of start_of path_of path_from target_place target_block pointing_block is_kept_block resolves resolved_block resolved_place resolved_visits header_result byte_answer
    index_of is_counted number_of_byte total at.leaf_byte at.block_length_at at.level_count at.level_offset at.layout at.text_length at.counted_count at.settings
    at.leaf_offset at.leaf_count at.record_size at.field at.start at.kind at.link at.gap at.before at.inside at.skip at.edges_at at.full_length at.is_kept
    at.is_pointing at.has_edges at.holds_header at.layout_ok at.is_header_ok
row-marked = record { open_end = refl; ended = refl; one = refl; empty = refl; uncounted = (refl, refl); broken = refl; short = refl }
