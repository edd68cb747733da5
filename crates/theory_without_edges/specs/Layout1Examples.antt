-- Computed examples: the trees of docs/FORMAT.md, "Example", without their edges are its trees of layout 1, and a tree of layout 1 is unchanged.
use Rattle.std.specs.Prelude.{List, [], ◌∷◌, ◌++◌, ◌≡◌, refl, ℕ, length, replicate, take}
use Rattle.text.specs.Text.{tabulate, concat, sum_below, count_below, same_list, substring, leftmost, first_from, count_in}
use Rattle.format.specs.Layout.{set_word, word_at, words_bytes, word_bytes, Settings, block_length, pieces, record_length, edges_of, filled_out}
use Rattle.format.specs.Blocks.{tree_of, header, leaf_bytes, level_pairs, record_bytes, level_bytes, record_in, record_of, target, occurrence, width, is_kept}
use Rattle.format.specs.Blocks.{starts_at, cut, kept_by_pairs, first_pair_at, pair_at, length_of, start_of}
use Rattle.format.specs.Layout as at
use Rattle.theory_without_edges.specs.WithoutEdges.{layout1_record_size, layout1_offset, offsets_in, layout1_header, record_count}
use Rattle.theory_without_edges.specs.WithoutEdges.{layout1_record, layout1_records, layout1_leaf_bytes, without_edges}
use Rattle.theory_without_edges.specs.TreeInLayout.{tree_in, header_in, pairs_in, level_in_layout, bytes_of, size_in_layout}

layout1-book : List ℕ
layout1-book = 81 ∷ 65 ∷ 66 ∷ 67 ∷ 68 ∷ 65 ∷ 66 ∷ 67 ∷ 68 ∷ 69 ∷ 70 ∷ 71 ∷ 65 ∷ 66 ∷ 67 ∷ 68 ∷ 65 ∷ 66 ∷ 67 ∷ 68 ∷ []

layout1-twelve : List ℕ
layout1-twelve = replicate 12 65

layout1-two : Settings
layout1-two = record { leaf = 2; arity = 2; levels = 2; counted = 65 ∷ [] }

uncounted : Settings
uncounted = record { leaf = 2; arity = 2; levels = 2; counted = [] }

-- The words of the records of level l.
layout1-words : Settings → List ℕ → ℕ → List ℕ
layout1-words S T l = concat (tabulate (length (starts_at S T l)) (record_of S T l (starts_at S T l)))

-- The trees in layout 1, by hand: the header's words, the records without edges, the leaf bytes.
layout1-by-hand : List ℕ → ℕ → Settings → List ℕ → List ℕ → List ℕ
layout1-by-hand words offset S T leaves =
    words_bytes words ++ replicate 48 0 ++ words_bytes (offset ∷ length leaves ∷ layout1-words S T 0 ++ layout1-words S T 1) ++ leaves

layout1-older : List ℕ
layout1-older = layout1-by-hand (1 ∷ 20 ∷ 2 ∷ 2 ∷ 2 ∷ 1 ∷ 65 ∷ 5 ∷ 100 ∷ 8 ∷ 240 ∷ []) 464 layout1-two layout1-book (take 16 layout1-book)

layout1-older-twelve : List ℕ
layout1-older-twelve = layout1-by-hand (1 ∷ 12 ∷ 2 ∷ 2 ∷ 2 ∷ 0 ∷ 0 ∷ 3 ∷ 100 ∷ 4 ∷ 148 ∷ []) 212 uncounted layout1-twelve (replicate 8 65)

pub record Layout1Marked : Type 0 where
  -- 532 and 248 bytes with edges, 480 and 220 without
  book_layout1 : (without_edges (tree_of layout1-two layout1-book) ≡ layout1-older) × (length (tree_of layout1-two layout1-book) ≡ 532)
      × (length layout1-older ≡ 480)
  twelve_layout1 : (without_edges (tree_of uncounted layout1-twelve) ≡ layout1-older-twelve) × (length (tree_of uncounted layout1-twelve) ≡ 248)
      × (length layout1-older-twelve ≡ 220)
  book_in_layout : tree_in 1 layout1-two layout1-book ≡ layout1-older
  stays : (without_edges layout1-older ≡ layout1-older) × (without_edges layout1-older-twelve ≡ layout1-older-twelve)
  -- The tree of the empty text is its header.
  empty : length (without_edges (tree_of layout1-two [])) ≡ 100

pub layout1-marked : Layout1Marked
unfolding layout1-book layout1-twelve layout1-two uncounted layout1-words layout1-by-hand layout1-older layout1-older-twelve without_edges
    layout1_record_size layout1_offset offsets_in layout1_header record_count
    layout1_record layout1_records layout1_leaf_bytes tree_in header_in pairs_in level_in_layout bytes_of size_in_layout tabulate concat sum_below count_below same_list set_word
    word_at words_bytes word_bytes substring leftmost first_from count_in block_length pieces record_length tree_of header leaf_bytes level_pairs record_bytes
    edges_of filled_out level_bytes record_in record_of target occurrence width is_kept starts_at cut kept_by_pairs first_pair_at pair_at length_of start_of
    at.level_count at.level_offset at.layout at.text_length at.counted_count at.settings at.leaf_offset at.leaf_count at.record_size at.field at.start
    at.kind at.link at.gap at.before at.inside at.skip at.edges_at at.leaf_byte at.full_length at.block_length_at at.is_kept at.is_pointing at.has_edges
    at.holds_header at.layout_ok at.is_header_ok
layout1-marked = record {
  book_layout1 = (refl, refl, refl);
  twelve_layout1 = (refl, refl, refl);
  book_in_layout = refl;
  stays = (refl, refl);
  empty = refl;
}
