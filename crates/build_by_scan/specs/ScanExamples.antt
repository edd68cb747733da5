-- The windows of small books, and which question refuses, computed from the definitions.
use Rattle.std.specs.Prelude.{List, [], ◌∷◌, ◌≡◌, refl, ℕ, replicate}
use Rattle.text.specs.Text.{tabulate, concat, sum_below, count_below, same_list, substring, leftmost, first_from, count_in}
use Rattle.format.specs.Layout.{words_bytes, word_bytes, Settings, block_length, pieces, record_length, length_ok, sizes_ok, counted_ok, rising, rising_after}
use Rattle.format.specs.Layout.{edges_of, filled_out}
use Rattle.format.specs.Blocks.{tree_of, header, leaf_bytes, level_pairs, record_bytes, level_bytes, record_in, record_of, target, occurrence, width, is_kept}
use Rattle.format.specs.Blocks.{starts_at, cut, kept_by_pairs, first_pair_at, pair_at, length_of, start_of}
use Rattle.build_by_scan.specs.ScanAnswers.{any_below, has_length, windows_at, windows_of, table_words, build_scanned_refusal, scan_size, scan_windows}

scan-book : List ℕ
scan-book = 81 ∷ 65 ∷ 66 ∷ 67 ∷ 68 ∷ 65 ∷ 66 ∷ 67 ∷ 68 ∷ 69 ∷ 70 ∷ 71 ∷ 65 ∷ 66 ∷ 67 ∷ 68 ∷ 65 ∷ 66 ∷ 67 ∷ 68 ∷ []

scan-abcd : List ℕ
scan-abcd = 65 ∷ 66 ∷ 67 ∷ 68 ∷ 65 ∷ 66 ∷ 67 ∷ 68 ∷ 65 ∷ []

with-levels : ℕ → List ℕ → Settings
with-levels H cs = record { leaf = 2; arity = 2; levels = H; counted = cs }

pub record Scans : Type 0 where
  -- Lengths 4 and 8; lengths 4, 1, 8 and 5; one level; three levels, the first with lengths 8, 4, 16 and 12.
  worked : windows_of (with-levels 2 (65 ∷ [])) scan-book ≡ 30
  short : windows_of (with-levels 2 []) scan-abcd ≡ 22
  alike : windows_of (with-levels 2 []) (replicate 12 65) ≡ 14
  one_level : windows_of (with-levels 1 []) scan-book ≡ 0
  three_levels : windows_of (with-levels 3 []) scan-book ≡ 74
  -- A text shorter than a leaf: four words.
  begun : (table_words 2 2 ≡ 4) × (windows_of (with-levels 3 []) (65 ∷ 66 ∷ []) ≡ 2)
  -- The empty text: no words, no windows.
  no_text : (table_words 0 2 ≡ 0) × (windows_of (with-levels 3 []) [] ≡ 0) × (build_scanned_refusal (with-levels 3 []) [] (replicate 100 7) 0 ≡ 0)
  -- 40 words are required; 18 comes before 4, and 3 before 18.
  table_short : build_scanned_refusal (with-levels 2 (65 ∷ [])) scan-book (replicate 531 7) 39 ≡ 18
  buffer_short : build_scanned_refusal (with-levels 2 (65 ∷ [])) scan-book (replicate 531 7) 40 ≡ 4
  both_fit : (build_scanned_refusal (with-levels 2 (65 ∷ [])) scan-book (replicate 532 7) 40 ≡ 0)
      × (scan_size (with-levels 2 (65 ∷ [])) scan-book (replicate 532 7) 40 ≡ 532)
      × (scan_windows (with-levels 2 (65 ∷ [])) scan-book (replicate 532 7) 40 ≡ 30)
  counted_twice : build_scanned_refusal (with-levels 2 (65 ∷ 65 ∷ [])) scan-book [] 0 ≡ 3

pub scans : Scans
unfolding scan-book scan-abcd with-levels tabulate concat sum_below
    count_below same_list substring leftmost first_from count_in words_bytes word_bytes block_length pieces length_ok sizes_ok counted_ok rising rising_after
    tree_of header leaf_bytes level_pairs record_bytes record_length edges_of filled_out level_bytes record_in record_of target occurrence width is_kept
    starts_at cut kept_by_pairs first_pair_at pair_at length_of start_of any_below has_length windows_at windows_of table_words build_scanned_refusal scan_size scan_windows
scans = record {
  worked = refl;
  short = refl;
  alike = refl;
  one_level = refl;
  three_levels = refl;
  begun = (refl, refl);
  no_text = (refl, refl, refl);
  table_short = refl;
  buffer_short = refl;
  both_fit = (refl, refl, refl);
  counted_twice = refl;
}
