-- The built tree read by the layout gives what it was built from: the header, the records and the leaf bytes.
use Rattle.std.specs.Prelude.{List, Bool, cond, ◌≡◌, take, drop}
use Rattle.std.proofs.Math.Bool.{true, false, not}
use Rattle.std.proofs.Math.Path.{refl, ap}
use Rattle.std.proofs.Common.{sym, ◌∙◌, take_at}
use Prim.Native.Nat.{ℕ, suc, ◌+◌, ◌*◌, ◌≤◌, ◌<◌}
use native.Mathlib.Omega.{arith}
use Rattle.std.proofs.Math.ListN.{length, get_or}
use Rattle.std.proofs.Math.Dec.{eqb}
use Rattle.format.specs.Layout.{word_at, start_field, kind_field, link_field, gap_field, plain_words, before_field, inside_field, skip_field}
use Rattle.format.specs.Layout.{Settings, max_levels, max_counted, leaf_at, arity_at, levels_at, counted_at, pairs_at, count_at, offset_at}
use Rattle.format.specs.Blocks.{tree_of, leaf_bytes, record_bytes, built_layout}
use Rattle.format.specs.Layout as at
use Rattle.theory_built.specs.BlockSizes.{Taken, BuiltBounds, bounds}
use Rattle.theory_built.specs.Structure.{size, count, start, bytes_in, kept_at, bytes_in-is, level_at}
use Rattle.theory_built.specs.BuiltLeafBytes.{leaves-le}
use Rattle.theory_built.specs.Pairs.{offset, level_words_of, word_count, word-offset, word_none, word-leaf-offset, word-leaf-count}
use Rattle.theory_built.specs.BuiltBytes.{bytes_word, record-field-bytes}
use Rattle.theory_built.specs.BuiltRecords.{record_at, record_words, record-start, record-kind, record-link, record-gap, record-before}
use Rattle.theory_built.specs.BuiltRecords.{record-inside, record-skip, kind_of, link_of, gap_of, before_of, inside_of, skip_of}
use Rattle.theory_built.specs.Shape.{six_words, six-word, counted_places, counted-places, level-word, leaf-place}
use Rattle.theory_built.specs.SizeBounds.{blocks-le, link-le, gap-le, kind-le, before-le, inside-le, skip-le, offset-le}

module _ (S : Settings) (T : List ℕ) (h : Taken S T) where
  limits : BuiltBounds S T
  limits = bounds S T h

  -- The header.

  pub read-layout : at.layout (tree_of S T) ≡ built_layout
  unfolding at.layout six_words
  read-layout = six-word S T h 0 (omega arith) (omega arith)

  pub read-text_length : at.text_length (tree_of S T) ≡ length T
  unfolding at.text_length six_words
  read-text_length = six-word S T h 1 (omega arith) (omega (arith, limits.text_high))

  pub read-counted_count : at.counted_count (tree_of S T) ≡ length S.counted
  unfolding at.counted_count six_words
  read-counted_count = six-word S T h 5 (omega arith) (omega (arith, limits.counted_high))

  pub read-leaf : word_at (tree_of S T) leaf_at ≡ S.leaf
  unfolding six_words
  read-leaf = six-word S T h 2 (omega arith) (omega (arith, limits.leaf_high))

  pub read-arity : word_at (tree_of S T) arity_at ≡ S.arity
  unfolding six_words
  read-arity = six-word S T h 3 (omega arith) (omega (arith, limits.arity_high))

  pub read-levels : word_at (tree_of S T) levels_at ≡ S.levels
  unfolding six_words
  read-levels = six-word S T h 4 (omega arith) (omega (arith, limits.levels_high))

  pub read-counted : take (at.counted_count (tree_of S T)) (take max_counted (drop counted_at (tree_of S T))) ≡ S.counted
  unfolding counted_places
  read-counted = rw (read-counted_count, counted-places S T h) (take_at S.counted _ (length S.counted) refl)

  pub read-settings : at.settings (tree_of S T) ≡ S
  unfolding at.settings
  read-settings = rw (read-leaf, read-arity, read-levels, read-counted)

  pub read-level_count : (l : ℕ) → l < S.levels → at.level_count (tree_of S T) l ≡ count S T l
  unfolding at.level_count
  read-level_count l e =
      let place : count_at l ≡ pairs_at + 4 * (2 * l) = omega arith in
      let is : get_or (level_words_of S T) (2 * l) 0 ≡ count S T l = word_count S T limits.levels_high l e in
      rw place (level-word S T h (2 * l) (omega (arith, limits.levels_high)) (omega (arith, blocks-le S T h l e, limits.text_high)) ∙ is)

  pub read-level_offset : (l : ℕ) → l < S.levels → at.level_offset (tree_of S T) l ≡ offset S T l
  unfolding at.level_offset
  read-level_offset l e =
      let place : offset_at l ≡ pairs_at + 4 * suc (2 * l) = omega arith in
      let is : get_or (level_words_of S T) (suc (2 * l)) 0 ≡ offset S T l = word-offset S T limits.levels_high l e in
      rw place (level-word S T h (suc (2 * l)) (omega (arith, limits.levels_high)) (omega (arith, offset-le S T h l (omega arith))) ∙ is)

  -- The pairs past the levels are unused.
  pub read-no-count : (l : ℕ) → S.levels ≤ l → l < max_levels → at.level_count (tree_of S T) l ≡ 0
  unfolding at.level_count
  read-no-count l lo hi =
      let place : count_at l ≡ pairs_at + 4 * (2 * l) = omega arith in
      let is : get_or (level_words_of S T) (2 * l) 0 ≡ 0 = word_none S T limits.levels_high (2 * l) (omega arith) (omega arith) in
      rw place (level-word S T h (2 * l) (omega arith) (omega arith) ∙ is)

  pub read-no-offset : (l : ℕ) → S.levels ≤ l → l < max_levels → at.level_offset (tree_of S T) l ≡ 0
  unfolding at.level_offset
  read-no-offset l lo hi =
      let place : offset_at l ≡ pairs_at + 4 * suc (2 * l) = omega arith in
      let is : get_or (level_words_of S T) (suc (2 * l)) 0 ≡ 0 = word_none S T limits.levels_high (suc (2 * l)) (omega arith) (omega arith) in
      rw place (level-word S T h (suc (2 * l)) (omega arith) (omega arith) ∙ is)

  pub read-leaf_offset : at.leaf_offset (tree_of S T) ≡ offset S T S.levels
  unfolding at.leaf_offset
  read-leaf_offset =
      let is : get_or (level_words_of S T) (2 * max_levels) 0 ≡ offset S T S.levels = word-leaf-offset S T limits.levels_high in
      level-word S T h (2 * max_levels) (omega arith) (omega (arith, offset-le S T h S.levels (omega arith))) ∙ is

  pub read-leaf_count : at.leaf_count (tree_of S T) ≡ length (leaf_bytes S T)
  unfolding at.leaf_count
  read-leaf_count =
      let is : get_or (level_words_of S T) (2 * max_levels + 1) 0 ≡ length (leaf_bytes S T) = word-leaf-count S T limits.levels_high in
      level-word S T h (2 * max_levels + 1) (omega arith) (omega (arith, leaves-le S T h, limits.text_high)) ∙ is

  pub read-record_size : at.record_size (tree_of S T) ≡ record_bytes S
  unfolding at.record_size record_bytes
  read-record_size = rw (read-layout, ap (λ (x : Settings). x.leaf) read-settings, read-counted_count)

  pub read-leaf_byte : (x : ℕ) → at.leaf_byte (tree_of S T) x ≡ get_or (leaf_bytes S T) x 0
  unfolding at.leaf_byte
  read-leaf_byte x = rw read-leaf_offset (leaf-place S T h x)

  pub read-full_length : (l : ℕ) → at.full_length (tree_of S T) l ≡ size S T l
  unfolding at.full_length
  read-full_length l = rw read-settings

  -- The records.

  module _ (l i : ℕ) (e : l < S.levels) (il : i < count S T l) where
    read-field : (f : ℕ) → f < record_words S T → get_or (record_at S T l i) f 0 < 4294967296 → at.field (tree_of S T) l i f ≡ get_or (record_at S T l i) f 0
    unfolding at.field
    read-field f fl small = rw (read-level_offset l e, read-record_size) (bytes_word (tree_of S T) _ _ (record-field-bytes S T h l i f e il fl) small)

    pub read-edges_at : at.edges_at (tree_of S T) l i ≡ offset S T l + i * record_bytes S + 4 * record_words S T
    unfolding at.edges_at record_words
    read-edges_at = rw (read-level_offset l e, read-record_size, read-counted_count) (omega arith)

    some_words : plain_words ≤ record_words S T
    unfolding record_words
    some_words = omega arith

    pub read-start : at.start (tree_of S T) l i ≡ start S T l i
    unfolding at.start
    read-start = read-field start_field (omega (arith, some_words))
        (rw (record-start S T l i) (omega (arith, (level_at S T h l e).within i il, limits.text_high))) ∙ record-start S T l i

    pub read-kind : at.kind (tree_of S T) l i ≡ kind_of S T l i
    unfolding at.kind
    read-kind = read-field kind_field (omega (arith, some_words)) (rw (record-kind S T l i) (omega (arith, kind-le S T l i))) ∙ record-kind S T l i

    pub read-link : at.link (tree_of S T) l i ≡ link_of S T l i
    unfolding at.link
    read-link = read-field link_field
        (omega (arith, some_words)) (rw (record-link S T l i) (omega (arith, link-le S T h l e i il, limits.text_high))) ∙ record-link S T l i

    pub read-gap : at.gap (tree_of S T) l i ≡ gap_of S T l i
    unfolding at.gap
    read-gap = read-field gap_field
        (omega (arith, some_words)) (rw (record-gap S T l i) (omega (arith, gap-le S T h l e i il, limits.text_high))) ∙ record-gap S T l i

    module _ (c : ℕ) (cl : c < length S.counted) where
      count-words : skip_field c < record_words S T
      unfolding record_words
      count-words = omega arith

      -- A count of the text fits a word.
      read_count : (f x : ℕ) → f ≤ skip_field c → get_or (record_at S T l i) f 0 ≡ x → x ≤ length T → at.field (tree_of S T) l i f ≡ x
      read_count f x of-record is few = read-field f (omega (arith, count-words)) (rw is (omega (arith, limits.text_high))) ∙ is

      pub read-before : at.before (tree_of S T) l i c ≡ before_of S T l i (get_or S.counted c 0)
      unfolding at.before
      read-before = read_count (before_field c) _ (omega arith) (record-before S T l i c cl) (before-le S T l i (get_or S.counted c 0))

      pub read-inside : at.inside (tree_of S T) l i c ≡ inside_of S T l i (get_or S.counted c 0)
      unfolding at.inside
      read-inside = read_count (inside_field c) _ (omega arith) (record-inside S T l i c cl) (inside-le S T l i (get_or S.counted c 0))

      pub read-skip : at.skip (tree_of S T) l i c ≡ skip_of S T l i (get_or S.counted c 0)
      unfolding at.skip
      read-skip = read_count (skip_field c) _ (omega arith) (record-skip S T l i c cl) (skip-le S T l i (get_or S.counted c 0))

    pub read-block_length : at.block_length_at (tree_of S T) l i ≡ bytes_in S T l i
    unfolding at.block_length_at
    read-block_length = rw (read-full_length l, read-text_length, read-start) (sym (bytes_in-is S T l i))

    pub read-is_kept : at.is_kept (tree_of S T) l i ≡ kept_at S T l i
    unfolding at.is_kept kind_of
    read-is_kept = rw read-kind (go (kept_at S T l i))
      where
        go : (y : Bool) → eqb (cond y 0 1) 0 ≡ y
        go true = refl
        go false = refl

    pub read-is_pointing : at.is_pointing (tree_of S T) l i ≡ not (kept_at S T l i)
    unfolding at.is_pointing kind_of
    read-is_pointing = rw read-kind (go (kept_at S T l i))
      where
        go : (y : Bool) → eqb (cond y 0 1) 1 ≡ not y
        go true = refl
        go false = refl
