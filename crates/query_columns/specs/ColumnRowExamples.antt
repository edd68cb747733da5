-- Rows by columns of a rearranged text, from valid and damaged trees, computed from the definitions.
use Rattle.std.specs.Prelude.{List, [], ◌∷◌, ◌≡◌, refl, ℕ, replicate, take}
use Rattle.text.specs.Text.{tabulate, concat, sum_below, count_below, all_below, same_list, substring, leftmost, first_from, count_in}
use Rattle.columns.specs.Columns.{transposed, columns, width_ok}
use Rattle.format.specs.Layout.{word_at, words_bytes, word_bytes, set_word, block_length, pieces, record_length, length_ok, sizes_ok, counted_ok, rising, rising_after}
use Rattle.format.specs.Blocks.{tree_of, header, leaf_bytes, level_pairs, record_bytes, level_bytes, record_in, record_of, target, occurrence, width, is_kept}
use Rattle.format.specs.Blocks.{starts_at, cut, kept_by_pairs, first_pair_at, pair_at, length_of, start_of}
use Rattle.format.specs.Layout.{edges_of, filled_out}
use Rattle.format.specs.Layout as at
use Rattle.format.specs.TreeReading.{path_of, path_from, target_place, target_block, pointing_block}
use Rattle.format.specs.TreeReading.{is_kept_block, resolves, resolved_block, resolved_place, resolved_visits, header_result}
use Rattle.format.specs.Answers.{Answer, byte_answer}
use Rattle.query_columns.specs.ColumnRows.{cell, cells_hold, row_by_columns_refusal, row_by_columns_buffer, row_by_columns_answer}

-- AB1, AB2, AC3, each with its byte 10
column-row-book : List ℕ
column-row-book = 65 ∷ 66 ∷ 49 ∷ 10 ∷ 65 ∷ 66 ∷ 50 ∷ 10 ∷ 65 ∷ 67 ∷ 51 ∷ 10 ∷ []

-- The tree of the book by columns of rows of 4.
column-row-tree : List ℕ
column-row-tree = tree_of (record { leaf = 2; arity = 2; levels = 2; counted = [] }) (columns 4 column-row-book)

-- The kind of its level 0 block 2, places 8 to 11, is none.
column-row-broken : List ℕ
column-row-broken = set_word column-row-tree 144 2

-- A buffer of 238.
lent : ℕ → List ℕ
lent n = replicate n 238

column-row-answered : ℕ → ℕ → Answer
column-row-answered q v = record { number = q; value = v; entered = 0 }

pub record ColumnRowMarked : Type 0 where
  rows : (row_by_columns_buffer column-row-tree 4 0 (lent 4) ≡ 65 ∷ 66 ∷ 49 ∷ 10 ∷ [])
      × (row_by_columns_buffer column-row-tree 4 2 (lent 5) ≡ 65 ∷ 67 ∷ 51 ∷ 10 ∷ 238 ∷ [])
  -- The width is the bytes copied.
  copied : (row_by_columns_answer column-row-tree 4 1 4 ≡ column-row-answered 0 4) × (row_by_columns_answer column-row-tree 12 0 12 ≡ column-row-answered 0 12)
  -- 20 before 10, 10 before 13; a width of 0 or above n
  order : (row_by_columns_answer column-row-tree 5 9 0 ≡ column-row-answered 20 0)
      × (row_by_columns_answer column-row-tree 0 9 0 ≡ column-row-answered 20 0) × (row_by_columns_answer column-row-tree 24 0 24 ≡ column-row-answered 20 0)
      × (row_by_columns_answer column-row-tree 4 3 0 ≡ column-row-answered 10 0)
  short : (row_by_columns_answer column-row-tree 4 2 3 ≡ column-row-answered 13 0) × (row_by_columns_buffer column-row-tree 4 2 (lent 3) ≡ lent 3)
  -- A path that breaks in column 3 of row 0: 14, zeros; 20, 10 and 13 come before it.
  damaged : (row_by_columns_answer column-row-broken 4 0 6 ≡ column-row-answered 14 0)
      × (row_by_columns_buffer column-row-broken 4 0 (lent 6) ≡ 0 ∷ 0 ∷ 0 ∷ 0 ∷ 238 ∷ 238 ∷ [])
  before : (row_by_columns_answer column-row-broken 5 0 6 ≡ column-row-answered 20 0) × (row_by_columns_answer column-row-broken 4 3 6 ≡ column-row-answered 10 0)
      × (row_by_columns_answer column-row-broken 4 0 3 ≡ column-row-answered 13 0)
  -- One that breaks elsewhere is not seen.
  elsewhere : (row_by_columns_answer (set_word column-row-tree 104 2) 12 0 12 ≡ column-row-answered 14 0)
      × (row_by_columns_answer (set_word column-row-tree 104 2) 1 11 1 ≡ column-row-answered 0 1)
  unread : (row_by_columns_answer (take 99 column-row-tree) 0 0 0 ≡ column-row-answered 5 0)
      × (row_by_columns_answer (set_word column-row-tree 0 9) 0 0 0 ≡ column-row-answered 6 0)
      × (row_by_columns_answer (set_word column-row-tree 4 13) 0 0 0 ≡ column-row-answered 7 0)

pub column-row-marked : ColumnRowMarked
unfolding column-row-book column-row-tree set_word column-row-broken lent column-row-answered transposed columns width_ok cell cells_hold
    row_by_columns_refusal row_by_columns_buffer row_by_columns_answer tabulate concat sum_below
    count_below all_below same_list word_at words_bytes word_bytes substring leftmost first_from count_in block_length pieces record_length length_ok sizes_ok
    counted_ok rising rising_after tree_of header leaf_bytes level_pairs record_bytes edges_of filled_out level_bytes record_in record_of target occurrence width
    is_kept starts_at cut kept_by_pairs first_pair_at pair_at length_of start_of path_of path_from target_place target_block pointing_block is_kept_block resolves
    resolved_block resolved_place resolved_visits header_result at.leaf_byte byte_answer at.block_length_at at.level_count at.level_offset at.layout at.text_length
    at.counted_count at.settings at.leaf_offset at.leaf_count at.record_size at.field at.start at.kind at.link at.gap at.before at.inside at.skip at.edges_at
    at.full_length at.is_kept at.is_pointing at.has_edges at.holds_header at.layout_ok at.is_header_ok
column-row-marked = record {
  rows = (refl, refl);
  copied = (refl, refl);
  order = (refl, refl, refl, refl);
  short = (refl, refl);
  damaged = (refl, refl);
  before = (refl, refl, refl);
  elsewhere = (refl, refl);
  unread = (refl, refl, refl);
}
