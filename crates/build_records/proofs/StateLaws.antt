-- Places and bounds on a level that is written.
use mathlib.Core.List.{List}
use mathlib.Core.Path.{◌≡◌, refl}
use Prim.Native.Nat.{ℕ, suc, ◌+◌, ◌-◌, ◌*◌, ◌^◌, ◌≤◌, ◌<◌}
use native.Mathlib.Omega.{arith}
use native.Mathlib.Nat.{suc-mul, add-mul, mul-le-mul_right}
use lib.ListN.{length, get_or}
use Rattle.text.specs.Text.{sum_below}
use Rattle.format.specs.Layout.{start_field, kind_field, link_field, gap_field, plain_words, plain_bytes, field_bytes}
use Rattle.format.specs.Layout.{before_field, inside_field, skip_field, counted_bytes, Settings, block_length, max_text, max_leaf, max_counted, header_length}
use Rattle.format.specs.SizeLaws.{length-top, length-falls, record-edged}
use Rattle.format.specs.Blocks.{tree_of, record_bytes, built_layout}
use Rattle.theory_built.specs.BuiltBytes.{BytesAt, record-field-bytes}
use Rattle.theory_built.specs.Gather.{sum_below-le}
use Rattle.theory_built.specs.BlockSizes.{Taken, BuiltBounds, bounds, max_table}
use Rattle.theory_built.specs.Structure.{count, start}
use Rattle.theory_built.specs.Pairs.{offset}
use Rattle.theory_built.specs.Shape.{tree-length}
use Rattle.theory_built.specs.SizeBounds.{offset-le, blocks-le}
use Rattle.theory_built.specs.BuiltRecords.{record_words, record-start, record-kind, record-link, record-gap, record-before, record-inside, record-skip}
use Rattle.theory_built.specs.BuiltRecords.{kind_of, link_of, gap_of, before_of, inside_of, skip_of}
use Rattle.build_records.specs.declared.level_written.Level.{Level}
use Rattle.build_records.specs.declared.record_written.Block.{Block}
use Rattle.build_records.specs.WritesOnlyTree.{WritesOnlyTree}
use Rattle.build_records.specs.RecordPlaces.{record_place}
use Rattle.build_records.specs.State.{record_settings_of, LevelIs, RecordsUpTo, Writing, place_at}
use Rattle.build_records.proofs.WritesOnlyTreeLaws.{agrees-only-tree}

module _ (S : Settings) (T : List ℕ) where
  -- Places of records.

  pub record-size : record_bytes S ≡ field_bytes (length S.counted) + (S.leaf + S.leaf)
  unfolding record_bytes
  record-size = record-edged built_layout S.leaf (length S.counted) refl

  pub place-next : (l i : ℕ) → place_at S T l (suc i) ≡ place_at S T l i + record_bytes S
  place-next l i = omega (arith, suc-mul i (record_bytes S))

  pub place_end : (l : ℕ) → place_at S T l (count S T l) ≡ offset S T (suc l)
  unfolding offset sum_below
  place_end l = omega (arith, add-mul (sum_below l (count S T)) (count S T l) (record_bytes S))

  pub place-le : (l i j : ℕ) → i ≤ j → place_at S T l i ≤ place_at S T l j
  place-le l i j h = omega (arith, mul-le-mul_right {m = i} {n = j} (record_bytes S) h)

  pub record-inside-table : (l i : ℕ) → i < count S T l → place_at S T l i + record_bytes S ≤ offset S T (suc l)
  record-inside-table l i h = omega (arith, place-next l i, place-le l (suc i) (count S T l) h, place_end l)

  pub offset-low : (l : ℕ) → header_length ≤ offset S T l
  unfolding offset
  offset-low l = omega arith

  pub offset-rises : (l m : ℕ) → l ≤ m → offset S T l ≤ offset S T m
  unfolding offset
  offset-rises l m h = omega (arith, mul-le-mul_right (record_bytes S) (sum_below-le m (count S T) l h))

  module _ (h : Taken S T) where
    limits : BuiltBounds S T
    limits = bounds S T h

    pub table-inside : (l : ℕ) → l < S.levels → offset S T (suc l) ≤ length (tree_of S T)
    table-inside l e = omega (arith, tree-length S T h, offset-rises (suc l) S.levels e)

    pub blocks-few : (l : ℕ) → l < S.levels → count S T l ≤ max_text
    blocks-few l e = omega (arith, blocks-le S T h l e, limits.text_high)

    -- The words of a record.
    module _ (l i : ℕ) (e : l < S.levels) (il : i < count S T l) where
      four : plain_words ≤ record_words S T
      unfolding record_words
      four = omega arith

      at_zero : place_at S T l i + 4 * start_field ≡ place_at S T l i
      at_zero = omega arith

      pub start-bytes : BytesAt (tree_of S T) (place_at S T l i) (start S T l i)
      start-bytes = rw at_zero at (rw (record-start S T l i) at (record-field-bytes S T h l i start_field e il (omega (arith, four))))

      pub kind-bytes : BytesAt (tree_of S T) (place_at S T l i + 4 * kind_field) (kind_of S T l i)
      kind-bytes = rw (record-kind S T l i) at (record-field-bytes S T h l i kind_field e il (omega (arith, four)))

      pub link-bytes : BytesAt (tree_of S T) (place_at S T l i + 4 * kind_field + 4) (link_of S T l i)
      link-bytes =
          let p : place_at S T l i + 4 * link_field ≡ place_at S T l i + 4 * kind_field + 4 = omega arith in
          rw (record-link S T l i, p) at (record-field-bytes S T h l i link_field e il (omega (arith, four)))

      pub gap-bytes : BytesAt (tree_of S T) (place_at S T l i + 4 * kind_field + 8) (gap_of S T l i)
      gap-bytes =
          let p : place_at S T l i + 4 * gap_field ≡ place_at S T l i + 4 * kind_field + 8 = omega arith in
          rw (record-gap S T l i, p) at (record-field-bytes S T h l i gap_field e il (omega (arith, four)))

      -- The counts of counted byte number c.
      module _ (c : ℕ) (cl : c < length S.counted) where
        six : skip_field c < record_words S T
        unfolding record_words
        six = omega arith

        pub before-bytes : BytesAt (tree_of S T) (place_at S T l i + plain_bytes + counted_bytes * c) (before_of S T l i (get_or S.counted c 0))
        before-bytes =
            let p : place_at S T l i + 4 * before_field c ≡ place_at S T l i + plain_bytes + counted_bytes * c = omega arith in
            rw (record-before S T l i c cl, p) at (record-field-bytes S T h l i (before_field c) e il (omega (arith, six)))

        pub inside-bytes : BytesAt (tree_of S T) (place_at S T l i + plain_bytes + counted_bytes * c + 4) (inside_of S T l i (get_or S.counted c 0))
        inside-bytes =
            let p : place_at S T l i + 4 * inside_field c ≡ place_at S T l i + plain_bytes + counted_bytes * c + 4 = omega arith in
            rw (record-inside S T l i c cl, p) at (record-field-bytes S T h l i (inside_field c) e il (omega (arith, six)))

        pub skip-bytes : BytesAt (tree_of S T) (place_at S T l i + plain_bytes + counted_bytes * c + 8) (skip_of S T l i (get_or S.counted c 0))
        skip-bytes =
            let p : place_at S T l i + 4 * skip_field c ≡ place_at S T l i + plain_bytes + counted_bytes * c + 8 = omega arith in
            rw (record-skip S T l i c cl, p) at (record-field-bytes S T h l i (skip_field c) e il six)

-- Block lengths are at most the longest text.
module _ (S : Settings) (T : List ℕ) (h : Taken S T) where
  pub block-high : S.leaf * S.arity ^ (S.levels - 1) ≤ max_text
  block-high = (bounds S T h).top_high

  pub size-high : (l : ℕ) → block_length S l ≤ max_text
  size-high l = omega (arith, length-falls S (bounds S T h) 0 l (omega arith), length-top S, block-high)

-- The numbers of a level are small.
pub record RecordFew (S : Settings) (T : List ℕ) (level : Level) : Type 0 where
  pub counted_few : length S.counted ≤ max_counted
  pub text_few : length T ≤ max_text
  pub table_few : level.table ≤ max_table
  pub count_few : level.count ≤ max_text
  pub leaf_few : level.settings.leaf ≤ max_leaf
  pub size_few : level.size ≤ max_text

pub record-few : (S : Settings) (T : List ℕ) (level : Level) → LevelIs S T level → RecordFew S T level
record-few S T level h = record {
  counted_few = (bounds S T h.taken).counted_high;
  text_few = (bounds S T h.taken).text_high;
  table_few = rw h.table_is (offset-le S T h.taken level.number (omega (arith, h.number_in)));
  count_few = rw h.count_is (blocks-few S T h.taken level.number h.number_in);
  leaf_few = rw h.leaf_is (bounds S T h.taken).leaf_high;
  size_few = rw h.size_is (size-high S T h.taken level.number);
}

-- Where the code finds the record of a block.
pub place_is : (S : Settings) (T : List ℕ) (level : Level)
    → LevelIs S T level → (i : ℕ) → record_place level.table i (record_settings_of level.settings S.counted) ≡ place_at S T level.number i
unfolding record_bytes
place_is S T level h i = rw (h.table_is, h.leaf_is)

-- A state goes on as the buffer grows.
pub filled-only-tree : (S : Settings) (T t u : List ℕ) (l i : ℕ) → RecordsUpTo S T t l i → WritesOnlyTree (tree_of S T) t u → RecordsUpTo S T u l i
filled-only-tree S T t u l i f g = record {
  room = omega (arith, f.room, g.same_length);
  body = agrees-only-tree (tree_of S T) t u header_length (place_at S T l i) g f.body;
  starts = λ x h. agrees-only-tree (tree_of S T) t u (place_at S T l x) (place_at S T l x + 4) g (f.starts x h);
}

pub writing-only-tree : (S : Settings) (T t u : List ℕ) (level : Level) (i : ℕ) (block : Block) → Writing S T t level i block → WritesOnlyTree (tree_of S T) t u
    → Writing S T u level i block
writing-only-tree S T t u level i block w g =
    record { level_is = w.level_is; filled = filled-only-tree S T t u level.number i w.filled g; block_in = w.block_in; block_is = w.block_is }
