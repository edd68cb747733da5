-- Patterns looked for in the worked book's tree, in damaged ones and in a text that repeats itself, computed from the definitions.
use Rattle.std.specs.Prelude.{List, [], ◌∷◌, ◌++◌, ◌≡◌, refl, ℕ, ◌+◌, replicate, take, drop}
use Rattle.text.specs.Text.{tabulate, concat, sum_below, count_below, all_below, same_list, substring, leftmost, first_from, count_in}
use Rattle.format.specs.Layout.{word_at, words_bytes, word_bytes, block_length, pieces, record_length, length_ok, sizes_ok, counted_ok, rising, rising_after}
use Rattle.format.specs.Blocks.{tree_of, header, leaf_bytes, level_pairs, record_bytes, level_bytes, record_in, record_of, target, occurrence, width, is_kept}
use Rattle.format.specs.Blocks.{starts_at, cut, kept_by_pairs, first_pair_at, pair_at, length_of, start_of}
use Rattle.format.specs.Layout.{edges_of, filled_out}
use Rattle.format.specs.Layout as at
use Rattle.format.specs.TreeReading.{path_of, path_from, target_place, target_block, pointing_block, is_kept_block, resolves, resolved_block, resolved_place}
use Rattle.format.specs.TreeReading.{resolved_visits, text_of}
use Rattle.format.specs.TreeReading.{header_result}
use Rattle.format.specs.Answers.{Answer, byte_answer, paths_hold}
use Rattle.query_places.specs.Places.{occurs_at, places_below, places_in, pattern_ok, places_of}
use Rattle.query_places.specs.Places.{places_refusal, places_answer, places_buffer, words_for, places_words_answer}

places-book : List ℕ
places-book = 81 ∷ 65 ∷ 66 ∷ 67 ∷ 68 ∷ 65 ∷ 66 ∷ 67 ∷ 68 ∷ 69 ∷ 70 ∷ 71 ∷ 65 ∷ 66 ∷ 67 ∷ 68 ∷ 65 ∷ 66 ∷ 67 ∷ 68 ∷ []

-- The worked book's tree, and that of twelve letters A.
places-tree : List ℕ
places-tree = tree_of (record { leaf = 2; arity = 2; levels = 2; counted = 65 ∷ [] }) places-book

places-twelve : List ℕ
places-twelve = tree_of (record { leaf = 2; arity = 2; levels = 2; counted = [] }) (replicate 12 65)

-- The tree with another word at i.
with : List ℕ → ℕ → ℕ → List ℕ
with t i w = take i t ++ word_bytes w ++ drop (i + 4) t

places-abcd : List ℕ
places-abcd = 65 ∷ 66 ∷ 67 ∷ 68 ∷ []

places-answered : ℕ → ℕ → Answer
places-answered q v = record { number = q; value = v; entered = 0 }

-- A table of words that holds 9.
nines : ℕ → List ℕ
nines n = replicate n 9

pub record PlacesMarked : Type 0 where
  fragment : (places_answer places-tree places-abcd 8 ≡ places-answered 0 4) × (places_buffer places-tree places-abcd (nines 6) ≡ 1 ∷ 5 ∷ 12 ∷ 16 ∷ 9 ∷ 9 ∷ [])
  -- Room for all places, and for one less.
  room : (places_buffer places-tree places-abcd (nines 4) ≡ 1 ∷ 5 ∷ 12 ∷ 16 ∷ []) × (places_answer places-tree places-abcd 3 ≡ places-answered 17 0)
      × (places_buffer places-tree places-abcd (nines 3) ≡ nines 3)
  absent : (places_answer places-tree (88 ∷ []) 0 ≡ places-answered 0 0) × (places_buffer places-tree (88 ∷ []) (nines 2) ≡ nines 2)
  -- The whole text, and one byte more.
  whole : (places_buffer places-tree places-book (nines 1) ≡ 0 ∷ []) × (places_answer places-tree (places-book ++ 65 ∷ []) 0 ≡ places-answered 0 0)
  -- No byte, 256 and 257 bytes.
  lengths : (places_answer places-tree [] 2 ≡ places-answered 16 0) × (places_answer places-tree (replicate 256 81) 2 ≡ places-answered 0 0)
      × (places_answer places-tree (replicate 257 81) 2 ≡ places-answered 16 0)
  overlaps : (places_buffer places-twelve (replicate 2 65) (nines 11) ≡ 0 ∷ 1 ∷ 2 ∷ 3 ∷ 4 ∷ 5 ∷ 6 ∷ 7 ∷ 8 ∷ 9 ∷ 10 ∷ [])
      × (places_answer places-twelve (replicate 2 65) 10 ≡ places-answered 17 0)
  -- A path that breaks: after 16, before 17, and with the table unchanged.
  broken : (places_answer (with places-tree 104 2) [] 8 ≡ places-answered 16 0)
      × (places_answer (with places-tree 104 2) (68 ∷ []) 0 ≡ places-answered 14 0) × (places_buffer (with places-tree 104 2) (68 ∷ []) (nines 4) ≡ nines 4)
  -- Tables: AA has 11 places in twelve letters A; the whole text has one, and a longer pattern none.
  tables : (places_words_answer places-twelve 2 ≡ places-answered 0 11)
      × (places_words_answer places-tree 20 ≡ places-answered 0 1) × (places_words_answer places-tree 21 ≡ places-answered 0 0)
      × (places_words_answer places-tree 0 ≡ places-answered 16 0) × (places_words_answer places-tree 257 ≡ places-answered 16 0)
  unread : (places_answer (take 99 places-tree) [] 0 ≡ places-answered 5 0) × (places_answer (with places-tree 0 9) [] 0 ≡ places-answered 6 0)
      × (places_answer (with places-tree 4 21) [] 0 ≡ places-answered 7 0)

pub places-marked : PlacesMarked
unfolding places-book places-tree places-twelve with places-abcd places-answered nines occurs_at places_below places_in pattern_ok places_of places_refusal
    places_answer places_buffer words_for places_words_answer tabulate concat sum_below count_below all_below same_list word_at words_bytes word_bytes substring leftmost
    first_from count_in block_length pieces record_length length_ok sizes_ok counted_ok rising rising_after tree_of header leaf_bytes level_pairs record_bytes edges_of
    filled_out level_bytes record_in record_of target occurrence width is_kept starts_at cut kept_by_pairs first_pair_at pair_at length_of start_of path_of path_from
    target_place target_block pointing_block is_kept_block resolves resolved_block resolved_place resolved_visits text_of header_result at.leaf_byte byte_answer paths_hold
    at.block_length_at at.level_count at.level_offset at.layout at.text_length at.counted_count at.settings at.leaf_offset at.leaf_count at.record_size at.field at.start
    at.kind at.link at.gap at.before at.inside at.skip at.edges_at at.full_length at.is_kept at.is_pointing at.has_edges at.holds_header at.layout_ok at.is_header_ok
places-marked = record {
  fragment = (refl, refl);
  room = (refl, refl, refl);
  absent = (refl, refl);
  whole = (refl, refl);
  lengths = (refl, refl, refl);
  overlaps = (refl, refl);
  broken = (refl, refl, refl);
  tables = (refl, refl, refl, refl, refl);
  unread = (refl, refl, refl);
}
