-- The figures of the worked book's tree, of the tree of an empty text and of bytes that are not a tree, computed from the definitions.
use Rattle.std.specs.Prelude.{List, [], ◌∷◌, ◌≡◌, refl, ℕ, replicate, take}
use Rattle.text.specs.Text.{tabulate, concat, sum_below, count_below, all_below, same_list, substring, leftmost, first_from, count_in}
use Rattle.format.specs.Layout.{word_at, words_bytes, word_bytes, block_length, pieces, record_length, length_ok, sizes_ok, counted_ok, rising, rising_after}
use Rattle.format.specs.Layout.{edges_of, filled_out}
use Rattle.format.specs.Blocks.{tree_of, header, leaf_bytes, level_pairs, record_bytes, level_bytes, record_in, record_of, target, occurrence, width, is_kept}
use Rattle.format.specs.Blocks.{starts_at, cut, kept_by_pairs, first_pair_at, pair_at, length_of, start_of}
use Rattle.format.specs.Layout as at
use Rattle.format.specs.TreeReading.{header_result}
use Rattle.format.specs.Answers.{total}
use Rattle.query_info.specs.Info.{counted_byte, total_of, figures_of, info_buffer}

info-book : List ℕ
info-book = 81 ∷ 65 ∷ 66 ∷ 67 ∷ 68 ∷ 65 ∷ 66 ∷ 67 ∷ 68 ∷ 69 ∷ 70 ∷ 71 ∷ 65 ∷ 66 ∷ 67 ∷ 68 ∷ 65 ∷ 66 ∷ 67 ∷ 68 ∷ []

info-tree : List ℕ → List ℕ
info-tree T = tree_of (record { leaf = 2; arity = 2; levels = 2; counted = 65 ∷ 70 ∷ [] }) T

pub record InfoMarked : Type 0 where
  -- layout 2, 20 bytes, leaf 2, arity 2, 2 levels, 16 leaf bytes, 2 counted: A four times, F once; 5 and 8 blocks
  worked : info_buffer (info-tree info-book) ≡ 2 ∷ 20 ∷ 2 ∷ 2 ∷ 2 ∷ 16 ∷ 2 ∷ 65 ∷ 70 ∷ 0 ∷ 0 ∷ 4 ∷ 1 ∷ 0 ∷ 0 ∷ 5 ∷ 8 ∷ replicate 6 0
  empty : info_buffer (info-tree []) ≡ 2 ∷ 0 ∷ 2 ∷ 2 ∷ 2 ∷ 0 ∷ 2 ∷ 65 ∷ 70 ∷ replicate 14 0
  short : (header_result (take 99 (info-tree info-book)) ≡ 5) × (info_buffer (take 99 (info-tree info-book)) ≡ replicate 23 0)

pub info-marked : InfoMarked
unfolding info-book info-tree counted_byte total_of figures_of info_buffer total tabulate concat sum_below count_below all_below same_list word_at words_bytes word_bytes
    substring leftmost first_from count_in block_length pieces record_length length_ok sizes_ok counted_ok rising rising_after tree_of header leaf_bytes
    level_pairs record_bytes edges_of filled_out level_bytes record_in record_of target occurrence width is_kept starts_at cut kept_by_pairs first_pair_at pair_at
    length_of start_of header_result at.block_length_at at.level_count at.level_offset at.layout at.text_length at.counted_count at.settings at.leaf_offset
    at.leaf_count at.record_size at.field at.start at.kind at.link at.gap at.before at.inside at.skip at.edges_at at.leaf_byte at.full_length at.is_kept
    at.is_pointing at.has_edges at.holds_header at.layout_ok at.is_header_ok
info-marked = record { worked = refl; empty = refl; short = (refl, refl) }
