-- Trees of short texts compared, valid and damaged ones, computed from the definitions.
use Rattle.std.specs.Prelude.{List, [], ◌∷◌, ◌++◌, ◌≡◌, refl, ℕ, replicate, length, take}
use Rattle.std.specs.declared.cmp.Ordering.TheVariants.{Less, Equal, Greater}
use Rattle.text.specs.Text.{tabulate, concat, sum_below, count_below, all_below, same_list, substring, leftmost, first_from, count_in}
use Rattle.format.specs.Answers.{refused, byte_answer}
use Rattle.format.specs.Layout.{word_at, words_bytes, word_bytes, set_word, Settings, block_length, pieces, record_length, length_ok, sizes_ok, counted_ok, rising}
use Rattle.format.specs.Blocks.{tree_of, header, leaf_bytes, level_pairs, record_bytes, level_bytes, record_in, record_of, target, occurrence, width, is_kept}
use Rattle.format.specs.Blocks.{starts_at, cut, kept_by_pairs, first_pair_at, pair_at, length_of, start_of}
use Rattle.format.specs.Layout.{edges_of, filled_out, rising_after}
use Rattle.format.specs.Layout as at
use Rattle.format.specs.TreeReading.{path_of, path_from, target_place, target_block, pointing_block}
use Rattle.format.specs.TreeReading.{is_kept_block, resolves, resolved_block, resolved_place, resolved_visits, header_result}
use Rattle.query_compare.specs.OrderAnswers.{order_answer, by_lengths, compared_from, compare_answer}
use Rattle.query_compare.specs.TextOrder.{text_ordering, shared}

nine : List ℕ
nine = 81 ∷ 65 ∷ 66 ∷ 67 ∷ 68 ∷ 65 ∷ 66 ∷ 67 ∷ 68 ∷ []

compare-book : List ℕ
compare-book = nine ++ 69 ∷ 70 ∷ 71 ∷ 65 ∷ 66 ∷ 67 ∷ 68 ∷ 65 ∷ 66 ∷ 67 ∷ 68 ∷ []

compare-two : List ℕ → List ℕ
compare-two = tree_of (record { leaf = 2; arity = 2; levels = 2; counted = 65 ∷ [] })

-- The worked book, by two settings; its first nine bytes; the same with E for the ninth.
w : List ℕ
w = compare-two compare-book

w' : List ℕ
w' = tree_of (record { leaf = 3; arity = 2; levels = 1; counted = [] }) compare-book

p : List ℕ
p = compare-two nine

x : List ℕ
x = compare-two (take 8 nine ++ 69 ∷ [])

high : List ℕ
high = tree_of (record { leaf = 1; arity = 2; levels = 1; counted = [] }) (200 ∷ 1 ∷ [])

low : List ℕ
low = tree_of (record { leaf = 1; arity = 2; levels = 2; counted = [] }) (100 ∷ 255 ∷ [])

-- The empty text, by two settings.
compare-empty : List ℕ
compare-empty = compare-two []

empty' : List ℕ
empty' = tree_of (record { leaf = 1; arity = 2; levels = 1; counted = [] }) []

-- The book's tree in layout 1: the header's words, the records without edges, the leaf bytes.
compare-words : ℕ → List ℕ
compare-words l =
    let S : Settings = record { leaf = 2; arity = 2; levels = 2; counted = 65 ∷ [] } in
    concat (tabulate (length (starts_at S compare-book l)) (record_of S compare-book l (starts_at S compare-book l)))

compare-older : List ℕ
compare-older =
    words_bytes (1 ∷ 20 ∷ 2 ∷ 2 ∷ 2 ∷ 1 ∷ 65 ∷ 5 ∷ 100 ∷ 8 ∷ 240 ∷ []) ++ replicate 48 0 ++ words_bytes (464 ∷ 16 ∷ compare-words 0 ++ compare-words 1) ++
    take 16 compare-book

-- The kind of the worked book's last block, and of its first, is 2.
late : List ℕ
late = set_word w 232 2

early : List ℕ
early = set_word w 104 2

pub record CompareMarked : Type 0 where
  texts : (text_ordering nine compare-book ≡ Less) × (text_ordering compare-book nine ≡ Greater) × (text_ordering compare-book compare-book ≡ Equal)
      × (shared nine compare-book ≡ 9)
  settings : compare_answer w w' ≡ order_answer Equal 20
  layouts : (compare_answer w compare-older ≡ order_answer Equal 20) × (compare_answer compare-older p ≡ order_answer Greater 9)
  beginning : (compare_answer w p ≡ order_answer Greater 9) × (compare_answer p w ≡ order_answer Less 9)
  unsigned : (compare_answer high low ≡ order_answer Greater 0) × (compare_answer low high ≡ order_answer Less 0)
  differ : (compare_answer p x ≡ order_answer Less 8) × (compare_answer x p ≡ order_answer Greater 8)
      × (compare_answer w x ≡ order_answer Less 8) × (compare_answer x w ≡ order_answer Greater 8)
  -- The empty text comes before every other, and no place is read.
  empties : (compare_answer compare-empty w ≡ order_answer Less 0) × (compare_answer compare-older compare-empty ≡ order_answer Greater 0)
      × (compare_answer compare-empty empty' ≡ order_answer Equal 0) × (compare_answer early compare-empty ≡ order_answer Greater 0)
  -- A path that breaks, and one that breaks past the first difference or the shorter end, which is not read.
  broken : (compare_answer late w ≡ refused 14) × (compare_answer w late ≡ refused 14) × (compare_answer late late ≡ refused 14)
      × (compare_answer early high ≡ refused 14)
  unseen : (compare_answer late x ≡ order_answer Less 8) × (compare_answer x late ≡ order_answer Greater 8) × (compare_answer late p ≡ order_answer Greater 9)
  -- 5 to 7 of the first, then of the second, before any 14
  unread : (compare_answer (take 99 w) [] ≡ refused 5) × (compare_answer w (take 99 w) ≡ refused 5)
      × (compare_answer (set_word w 0 9) (take 99 w) ≡ refused 6)
      × (compare_answer early (set_word w 4 21) ≡ refused 7) × (compare_answer (set_word w 4 21) (set_word w 0 9) ≡ refused 7)

pub compare-marked : CompareMarked
unfolding nine compare-book compare-two w w' p x high low compare-empty empty' compare-words compare-older set_word late early text_ordering shared by_lengths
    compared_from compare_answer tabulate concat
    sum_below count_below all_below same_list word_at words_bytes word_bytes substring leftmost first_from count_in block_length pieces record_length length_ok
    sizes_ok counted_ok rising rising_after tree_of header leaf_bytes level_pairs record_bytes edges_of filled_out level_bytes record_in record_of target
    occurrence width is_kept starts_at cut kept_by_pairs first_pair_at pair_at length_of start_of path_of path_from target_place target_block pointing_block
    is_kept_block resolves resolved_block resolved_place resolved_visits header_result at.leaf_byte byte_answer at.block_length_at at.level_count at.level_offset at.layout
    at.text_length at.counted_count at.settings at.leaf_offset at.leaf_count at.record_size at.field at.start at.kind at.link at.gap at.before at.inside at.skip
    at.edges_at at.full_length at.is_kept at.is_pointing at.has_edges at.holds_header at.layout_ok at.is_header_ok
compare-marked = record {
  texts = (refl, refl, refl, refl);
  settings = refl;
  layouts = (refl, refl);
  beginning = (refl, refl);
  unsigned = (refl, refl);
  differ = (refl, refl, refl, refl);
  empties = (refl, refl, refl, refl);
  broken = (refl, refl, refl, refl);
  unseen = (refl, refl, refl);
  unread = (refl, refl, refl, refl, refl);
}
