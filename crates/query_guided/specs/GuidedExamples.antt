-- Steps with a guide, computed from the definitions.
use Rattle.std.specs.Prelude.{List, [], ◌∷◌, ◌≡◌, refl, ℕ, replicate}
use Rattle.text.specs.Text.{tabulate, concat, sum_below, count_below, all_below, same_list, substring, leftmost, first_from, count_in, place_of, place_in}
use Rattle.format.specs.Layout.{word_at, words_bytes, word_bytes, block_length, pieces, record_length, edges_of, filled_out}
use Rattle.format.specs.Blocks.{tree_of, header, leaf_bytes, level_pairs, record_bytes, level_bytes, record_in, record_of, target, occurrence, width, is_kept}
use Rattle.format.specs.Blocks.{starts_at, cut, kept_by_pairs, first_pair_at, pair_at, length_of, start_of}
use Rattle.format.specs.Layout as at
use Rattle.format.specs.TreeReading.{path_of, path_from, target_place, target_block, pointing_block, is_kept_block, resolves, resolved_block, resolved_place}
use Rattle.format.specs.TreeReading.{resolved_visits, text_of}
use Rattle.format.specs.Answers.{found}
use Rattle.query_guide.specs.Guides.{block_of}
use Rattle.query_guided.specs.Guided.{steps_to}

guided-book : List ℕ
guided-book = 81 ∷ 65 ∷ 66 ∷ 67 ∷ 68 ∷ 65 ∷ 66 ∷ 67 ∷ 68 ∷ 69 ∷ 70 ∷ 71 ∷ 65 ∷ 66 ∷ 67 ∷ 68 ∷ 65 ∷ 66 ∷ 67 ∷ 68 ∷ []

GuidedW : List ℕ
GuidedW = tree_of (record { leaf = 2; arity = 2; levels = 2; counted = 65 ∷ [] }) guided-book

-- 200 letters A in blocks of two
long : List ℕ
long = tree_of (record { leaf = 2; arity = 2; levels = 1; counted = 65 ∷ [] }) (replicate 200 65)

pub record GuidedMarked : Type 0 where
  -- The fourth A of the worked book is at 16, in block 4: three blocks entered, four steps from block 0.
  fourth : (found GuidedW 65 4 ≡ record { number = 0; value = 16; entered = 3 }) × (steps_to GuidedW 0 4 ≡ 4)
  -- The 64th is 31 steps from the 1st, the 65th none from itself, the hundredth 17 from the 65th.
  steps : (steps_to long 0 1 ≡ 0) × (steps_to long 0 64 ≡ 31) × (steps_to long 0 65 ≡ 0) × (steps_to long 0 100 ≡ 17)

pub guided-marked : GuidedMarked
unfolding guided-book GuidedW long block_of steps_to found tabulate concat sum_below count_below all_below same_list substring leftmost first_from count_in place_of
    place_in
    word_at words_bytes word_bytes block_length pieces record_length edges_of filled_out tree_of header leaf_bytes level_pairs record_bytes level_bytes record_in
    record_of target occurrence width is_kept starts_at cut kept_by_pairs first_pair_at pair_at length_of start_of path_of path_from target_place target_block
    pointing_block is_kept_block resolves resolved_block resolved_place resolved_visits text_of at.leaf_byte at.block_length_at at.level_count at.level_offset at.full_length
    at.layout at.text_length at.counted_count at.settings at.leaf_offset at.leaf_count at.record_size at.field at.start at.kind at.link at.gap at.before
    at.inside at.skip at.edges_at at.is_kept at.is_pointing at.has_edges at.holds_header at.layout_ok at.is_header_ok
guided-marked = record { fourth = (refl, refl); steps = (refl, refl, refl, refl) }
