-- `without_edges` preserves settings, counts, the fields of every record and the leaf bytes, and questions 5 to 7. An offset of the tree is below 2^32,
-- since it is read from four bytes, so the smaller offset of layout 1 fits a word.
use Rattle.std.specs.Prelude.{List, true, ◌&&◌, ◌≡◌, length, get_or, take, drop, leb, eqb}
use Rattle.std.proofs.Common.{ap, ◌∙◌, add-mul}
use Prim.Native.Nat.{ℕ, ◌+◌, ◌-◌, ◌*◌, ◌≤◌, ◌<◌}
use native.Mathlib.Omega.{arith}
use borrow.Author.Tests.{le-leb, eq-eqb}
use Rattle.text.specs.Text.{all_below, sum_below, substring}
use Rattle.text.specs.ListLaws.{and_both, all_below-make, sum_below-ext, sum_below-part}
use Rattle.text.specs.TextLaws.{substring-ext}
use Rattle.format.specs.Layout.{word_at, Settings, max_levels, max_counted, length_ok, sizes_ok, counted_ok, pieces}
use Rattle.format.specs.LayoutLaws.{field_count, Readable}
use Rattle.format.specs.SizeLaws.{record-plain}
use Rattle.format.specs.Layout.{layout_at, text_length_at, leaf_at, arity_at, levels_at, counted_count_at, counted_at, pairs_at, count_at, offset_at, leaf_offset_at}
use Rattle.format.specs.Layout.{leaf_count_at, header_length}
use Rattle.format.specs.Layout as at
use Rattle.format.specs.TreeReading.{header_result}
use Rattle.theory_built.specs.BuiltBytes.{bytes_word}
use Rattle.theory_without_edges.specs.WithoutEdges.{edgeless_layout, layout1_record_size, layout1_offset, without_edges}
use Rattle.theory_without_edges.proofs.Layout1Sizes as sizes
use Rattle.theory_without_edges.proofs.Layout1Bytes as bytes
use Rattle.theory_without_edges.specs.TreesAgree.{Agree}

module _ (t : List ℕ) (k : Readable t) (small : at.leaf_offset t < 4294967296) where
  abbrev u : List ℕ
  u = without_edges t

  abbrev H : ℕ
  H = (at.settings t).levels

  -- The header.

  kept_word : (i : ℕ) → layout_at + 4 ≤ i → i + 4 ≤ pairs_at → word_at u i ≡ word_at t i
  kept_word i lo hi = bytes.word_same t u i i (λ r l. bytes.kept_byte t k (i + r) record {
    inside = omega arith;
    not_layout = omega arith;
    not_leaves = λ a b. omega arith;
    not_offset = λ x h a b. omega arith;
  })

  pub read-layout : at.layout u ≡ edgeless_layout
  unfolding at.layout
  read-layout = bytes_word u layout_at edgeless_layout (bytes.layout-bytes t k) (omega arith)

  read-text_length : at.text_length u ≡ at.text_length t
  unfolding at.text_length
  read-text_length = kept_word text_length_at (omega arith) (omega arith)

  read-counted_count : at.counted_count u ≡ at.counted_count t
  unfolding at.counted_count
  read-counted_count = kept_word counted_count_at (omega arith) (omega arith)

  long : header_length ≤ length u
  long = omega (arith, sizes.layout1-length t k, sizes.offset-end t)

  counted-byte : (x : ℕ) → x < max_counted → get_or u (counted_at + x) 0 ≡ get_or t (counted_at + x) 0
  counted-byte x h = bytes.kept_byte t k (counted_at + x) record {
    inside = omega arith;
    not_layout = omega arith;
    not_leaves = λ a b. omega arith;
    not_offset = λ l z a b. omega arith;
  }

  counted-places : take max_counted (drop counted_at u) ≡ take max_counted (drop counted_at t)
  unfolding substring
  counted-places = substring-ext u t counted_at counted_at max_counted (omega (arith, long)) (omega (arith, k.long)) counted-byte

  pub read-settings : at.settings u ≡ at.settings t
  unfolding at.settings
  read-settings =
      rw (
        kept_word leaf_at (omega arith) (omega arith),
        kept_word arity_at (omega arith) (omega arith),
        kept_word levels_at (omega arith) (omega arith),
        read-counted_count,
        counted-places,
      )

  pair-word : (i : ℕ) → pairs_at ≤ i → i + 4 ≤ leaf_offset_at → ((l : ℕ) → l < H → offset_at l < i + 4 → i < offset_at l + 4 → ⊥)
      → word_at u i ≡ word_at t i
  pair-word i lo hi out = bytes.word_same t u i i (λ r l. bytes.kept_byte t k (i + r) record {
    inside = omega arith;
    not_layout = omega arith;
    not_leaves = λ a b. omega arith;
    not_offset = λ x h a b. out x h (omega arith) (omega arith);
  })

  pub read-level_count : (l : ℕ) → l < max_levels → at.level_count u l ≡ at.level_count t l
  unfolding at.level_count
  read-level_count l h = pair-word (count_at l) (omega arith) (omega arith) (λ x z a b. omega arith)

  read-no-offset : (l : ℕ) → H ≤ l → l < max_levels → at.level_offset u l ≡ at.level_offset t l
  unfolding at.level_offset
  read-no-offset l lo hi = pair-word (offset_at l) (omega arith) (omega arith) (λ x z a b. omega arith)

  pub read-level_offset : (l : ℕ) → l < H → at.level_offset u l ≡ layout1_offset t l
  unfolding at.level_offset
  read-level_offset l h =
      bytes_word u (offset_at l) (layout1_offset t l) (bytes.offset-bytes t k l h) (omega (arith, sizes.offset-falls t k l (omega arith)))

  pub read-leaf_offset : at.leaf_offset u ≡ layout1_offset t H
  unfolding at.leaf_offset
  read-leaf_offset =
      bytes_word u leaf_offset_at (layout1_offset t H) (bytes.leaf-offset-bytes t k) (omega (arith, sizes.offset-falls t k H (omega arith)))

  pub read-leaf_count : at.leaf_count u ≡ at.leaf_count t
  unfolding at.leaf_count
  read-leaf_count = bytes.word_same t u leaf_count_at leaf_count_at (λ r l. bytes.kept_byte t k (leaf_count_at + r) record {
    inside = omega arith;
    not_layout = omega arith;
    not_leaves = λ a b. omega arith;
    not_offset = λ x h a b. omega (arith, k.bounds.levels_high);
  })

  pub read-record_size : at.record_size u ≡ layout1_record_size t
  unfolding at.record_size layout1_record_size
  read-record_size = rw (read-layout, read-counted_count) (record-plain edgeless_layout (at.settings u).leaf (at.counted_count t) (λ z. omega arith))

  -- The records and the leaves.

  words-in : (f r : ℕ) → f < field_count (at.counted_count t) → r < 4 → 4 * f + r < layout1_record_size t
  unfolding layout1_record_size
  words-in f r hf hr = omega arith

  read-field : (l i f : ℕ) → l < H → i < at.level_count t l → f < field_count (at.counted_count t) → at.field u l i f ≡ at.field t l i f
  unfolding at.field
  read-field l i f hl hi hf =
      rw (read-level_offset l hl, read-record_size, k.level_at l hl, sizes.offset_is t l)
      (bytes.word_same t u _ _ (λ r hr. rw (place (layout1_record_size t) r, place (at.record_size t) r) (here r hr)))
    where
      S : ℕ
      S = sum_below l (at.level_count t)

      here : (r : ℕ) → r < 4
          → get_or u (header_length + (S + i) * layout1_record_size t + (4 * f + r)) 0 ≡ get_or t (header_length + (S + i) * at.record_size t + (4 * f + r)) 0
      here r hr = bytes.record-byte t k (S + i) (4 * f + r) (omega (arith, sizes.count_is t, sum_below-part H (at.level_count t) l hl)) (words-in f r hf hr)

      place : (W r : ℕ) → header_length + S * W + i * W + 4 * f + r ≡ header_length + (S + i) * W + (4 * f + r)
      place W r = omega (arith, add-mul S i W)

  read-leaf_byte : (x : ℕ) → at.leaf_byte u x ≡ at.leaf_byte t x
  unfolding at.leaf_byte
  read-leaf_byte x = rw read-leaf_offset (bytes.leaf-byte t k x)

  pub layout1-agrees : Agree t u
  layout1-agrees = record {
    settings_are = read-settings;
    length_is = read-text_length;
    counted_are = read-counted_count;
    counts_are = read-level_count;
    leaves_are = read-leaf_count;
    fields_are = read-field;
    leaf-bytes = read-leaf_byte;
  }

  -- Questions 5 to 7, in the order of question 7.

  levels-are : (at.settings u).levels ≡ H
  levels-are = ap (λ (s : Settings). s.levels) read-settings

  full_is : at.full_length u 0 ≡ at.full_length t 0
  unfolding at.full_length
  full_is = rw read-settings

  counts_are : (l : ℕ) → l ≤ H → sum_below l (at.level_count u) ≡ sum_below l (at.level_count t)
  counts_are l h = sum_below-ext l _ _ (λ i z. read-level_count i (omega (arith, k.bounds.levels_high)))

  offset_read : (l : ℕ) → l ≤ H → layout1_offset t l ≡ header_length + sum_below l (at.level_count u) * at.record_size u
  offset_read l h = rw (counts_are l h, read-record_size) (sizes.offset_is t l)

  settings-ok : sizes_ok (at.settings u) ≡ true
  unfolding sizes_ok
  settings-ok =
      let z = k.bounds in
      rw read-settings (and_both (and_both (and_both (le-leb _ _ z.leaf_low) (le-leb _ _ z.leaf_high))
      (and_both (le-leb _ _ z.arity_low) (le-leb _ _ z.arity_high)))
      (and_both (and_both (le-leb _ _ z.levels_low) (le-leb _ _ z.levels_high)) (le-leb _ _ z.top_high)))

  counted-ok : counted_ok (at.settings u).counted ≡ true
  unfolding counted_ok
  counted-ok =
      rw (ap (λ (s : Settings). s.counted) read-settings)
      (and_both (le-leb (length (at.settings t).counted) max_counted (omega (arith, k.counted_size, k.bounds.counted_high))) k.counted_rising)

  unused : (x : ℕ) → x < max_counted - at.counted_count t → get_or u (counted_at + at.counted_count t + x) 0 ≡ 0
  unused x h =
      let e : counted_at + at.counted_count t + x ≡ counted_at + (at.counted_count t + x) = omega arith in
      rw e (counted-byte (at.counted_count t + x) (omega arith) ∙ k.counted_unused (at.counted_count t + x) (omega arith) (omega arith))

  places-zero : all_below (max_counted - at.counted_count u) (λ x. eqb (get_or u (counted_at + at.counted_count u + x) 0) 0) ≡ true
  places-zero = rw read-counted_count (all_below-make _ _ (λ x h. eq-eqb _ _ (unused x h)))

  pairs-zero : all_below (max_levels - (at.settings u).levels)
      (λ x. eqb (at.level_count u ((at.settings u).levels + x)) 0 && eqb (at.level_offset u ((at.settings u).levels + x)) 0) ≡ true
  pairs-zero = rw levels-are (all_below-make _ _ (λ x h. and_both
      (eq-eqb _ _ (read-level_count (H + x) (omega arith) ∙ k.count_unused (H + x) (omega arith) (omega arith)))
      (eq-eqb _ _ (read-no-offset (H + x) (omega arith) (omega arith) ∙ k.offset_unused (H + x) (omega arith) (omega arith)))))

  top_count : eqb (at.level_count u 0) (pieces (at.text_length u) (at.full_length u 0)) ≡ true
  top_count = rw (read-level_count 0 (omega arith), read-text_length, full_is) (eq-eqb _ _ k.level0)

  offsets-meet : all_below (at.settings u).levels (λ l. eqb (at.level_offset u l) (header_length + sum_below l (at.level_count u) * at.record_size u)) ≡ true
  offsets-meet = rw levels-are (all_below-make _ _ (λ l h. eq-eqb _ _ (read-level_offset l h ∙ offset_read l (omega arith))))

  leaves-meet : eqb (at.leaf_offset u) (header_length + sum_below (at.settings u).levels (at.level_count u) * at.record_size u) ≡ true
  leaves-meet = rw levels-are (eq-eqb _ _ (read-leaf_offset ∙ offset_read H (omega arith)))

  length-ok : length_ok (at.text_length u) ≡ true
  unfolding length_ok
  length-ok = rw read-text_length (le-leb _ _ k.bounds.text_high)

  few-counted : leb (at.counted_count u) max_counted ≡ true
  few-counted = rw read-counted_count (le-leb _ _ k.bounds.counted_high)

  size-meets : eqb (length u) (at.leaf_offset u + at.leaf_count u) ≡ true
  size-meets = rw (read-leaf_offset, read-leaf_count) (eq-eqb _ _ (sizes.layout1-length t k))

  header_ok : at.is_header_ok u ≡ true
  unfolding at.is_header_ok
  header_ok =
      and_both (and_both (and_both (and_both (and_both (and_both (and_both (and_both length-ok settings-ok) (and_both few-counted counted-ok))
      places-zero) pairs-zero) top_count) offsets-meet) leaves-meet) size-meets

  long-enough : at.holds_header u ≡ true
  unfolding at.holds_header
  long-enough = le-leb header_length (length u) long

  layout-ok : at.layout_ok u ≡ true
  unfolding at.layout_ok
  layout-ok = rw read-layout

  pub layout1-header : header_result u ≡ 0
  unfolding header_result
  layout1-header = rw (long-enough, layout-ok, header_ok)
