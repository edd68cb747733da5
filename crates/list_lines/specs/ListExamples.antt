-- The worked book (docs/FORMAT.md, "Example"): what the list program prints of its tree, and of one that is cut short.
use Rattle.std.specs.Prelude.{List, [], ◌∷◌, ◌≡◌, refl, ℕ, take}
use Rattle.text.specs.Text.{tabulate, concat, sum_below, count_below, all_below, same_list, substring, leftmost, first_from, count_in, place_of, place_in}
use Rattle.format.specs.Layout.{word_at, words_bytes, word_bytes, Settings, block_length, pieces, record_length, length_ok, sizes_ok, counted_ok, rising, rising_after}
use Rattle.format.specs.Layout.{edges_of, filled_out}
use Rattle.format.specs.Blocks.{tree_of, header, leaf_bytes, level_pairs, record_bytes, level_bytes, record_in, record_of, target, occurrence, width, is_kept}
use Rattle.format.specs.Blocks.{starts_at, cut, kept_by_pairs, first_pair_at, pair_at, length_of, start_of}
use Rattle.format.specs.Layout as at
use Rattle.format.specs.TreeReading.{path_of, path_from, target_place, target_block, pointing_block, is_kept_block, resolves, resolved_block, resolved_place}
use Rattle.format.specs.TreeReading.{resolved_visits}
use Rattle.format.specs.TreeReading.{links_ok, text_of, counts_true, edges_true, block_edges_true, last_level, width_at, kept_right, pointing_right, block_right}
use Rattle.format.specs.FittingText.{fits, block_fits}
use Rattle.format.specs.TreeReading.{count_below_right, block_counts_true, check_result, header_result}
use Rattle.list_lines.specs.ListedLines.{digits_within, decimal, figure, line, level_line, lines_below, refused_line, input_refusal, printed}

list-book : List ℕ
list-book = 81 ∷ 65 ∷ 66 ∷ 67 ∷ 68 ∷ 65 ∷ 66 ∷ 67 ∷ 68 ∷ 69 ∷ 70 ∷ 71 ∷ 65 ∷ 66 ∷ 67 ∷ 68 ∷ 65 ∷ 66 ∷ 67 ∷ 68 ∷ []

list-two : Settings
list-two = record { leaf = 2; arity = 2; levels = 2; counted = 65 ∷ [] }

-- 0 5 4 1, and 1 8 8 0; refused 7; refused 5
pub record Printed : Type 0 where
  book_lines : printed (tree_of list-two list-book) ≡ 48 ∷ 32 ∷ 53 ∷ 32 ∷ 52 ∷ 32 ∷ 49 ∷ 10 ∷ 49 ∷ 32 ∷ 56 ∷ 32 ∷ 56 ∷ 32 ∷ 48 ∷ 10 ∷ []
  short_tree : printed (take 531 (tree_of list-two list-book)) ≡ 114 ∷ 101 ∷ 102 ∷ 117 ∷ 115 ∷ 101 ∷ 100 ∷ 32 ∷ 55 ∷ 10 ∷ []
  short_header : printed (take 99 (tree_of list-two list-book)) ≡ 114 ∷ 101 ∷ 102 ∷ 117 ∷ 115 ∷ 101 ∷ 100 ∷ 32 ∷ 53 ∷ 10 ∷ []
  -- The empty text: 0 0 0 0, and 1 0 0 0.
  no_text : printed (tree_of list-two []) ≡ 48 ∷ 32 ∷ 48 ∷ 32 ∷ 48 ∷ 32 ∷ 48 ∷ 10 ∷ 49 ∷ 32 ∷ 48 ∷ 32 ∷ 48 ∷ 32 ∷ 48 ∷ 10 ∷ []
  three_digits : decimal 532 ≡ 53 ∷ 51 ∷ 50 ∷ []

pub list-shown : Printed
unfolding list-book list-two tabulate concat sum_below count_below all_below same_list word_at words_bytes word_bytes substring leftmost first_from count_in place_of
    place_in block_length pieces length_ok sizes_ok counted_ok rising rising_after tree_of header leaf_bytes level_pairs record_bytes record_length edges_of
    filled_out level_bytes record_in record_of target occurrence width is_kept starts_at cut kept_by_pairs first_pair_at pair_at length_of start_of path_of path_from
    target_place target_block pointing_block is_kept_block resolves resolved_block resolved_place resolved_visits links_ok text_of fits counts_true edges_true block_edges_true
    last_level width_at kept_right pointing_right block_right count_below_right block_fits block_counts_true check_result header_result at.leaf_byte at.block_length_at
    at.level_count at.level_offset digits_within decimal figure line level_line lines_below refused_line input_refusal printed at.layout at.text_length
    at.counted_count at.settings at.leaf_offset at.leaf_count at.record_size at.field at.start at.kind at.link at.gap at.before at.inside at.skip
    at.edges_at at.full_length at.is_kept at.is_pointing at.has_edges at.holds_header at.layout_ok at.is_header_ok
list-shown = record { book_lines = refl; short_tree = refl; short_header = refl; no_text = refl; three_digits = refl }
