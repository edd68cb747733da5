-- What questions 5 to 7 give of a tree's header, as plain facts over the accessors of `Layout`, and what follows from them.
use Rattle.std.specs.Prelude.{List, [], ◌∷◌, Bool, true, false, ◌&&◌, ◌≡◌, refl, ◌⊎◌, ℕ, suc, ◌+◌, ◌-◌, ◌*◌, ◌/◌, ◌^◌, ◌≤◌, ◌<◌, length, get_or, eqb, leb}
use Rattle.std.proofs.Common.{inl, inr, arith, mul-le-mul_right, le_trans, add-mul, eqb-true, leb-true, length-take, length-drop}
use Rattle.text.specs.Text.{all_below, sum_below}
use Rattle.text.specs.ListLaws.{and_left, and_right, or_cases, all_below-at, sum_below-part}
use Rattle.text.specs.Conjunctions.{parts}
use Rattle.format.specs.Layout.{field_bytes, start_field, kind_field, link_field, gap_field, plain_words, counted_words, plain_fields}
use Rattle.format.specs.Layout.{max_text, max_levels, max_counted, pieces, length_ok, sizes_ok, counted_ok, rising, counted_at, header_length}
use Rattle.format.specs.SizeLaws.{max_record}
use Rattle.format.specs.SizeLaws.{Bounds, within-bounds, length-step, length-pos, length_last, length-falls, length-top, record-low, record-high}
use Rattle.format.specs.SizeLaws.{record-edged}
use Rattle.format.specs.PieceLaws.{pieces-hold}
use Rattle.format.specs.Layout.{layout, text_length, counted_count, settings, level_count, level_offset, leaf_offset, leaf_count, record_size, edges_at}
use Rattle.format.specs.Layout.{full_length, holds_header, layout_ok, is_header_ok}
use Rattle.format.specs.TreeReading.{ask, header_result}

-- The words of a record with k counted bytes.
abbrev pub field_count : ℕ → ℕ
field_count k = plain_words + counted_words * k

pub in_order : (s k l g : ℕ) → (get_or (plain_fields s k l g) start_field 0 ≡ s) × (get_or (plain_fields s k l g) kind_field 0 ≡ k)
    × (get_or (plain_fields s k l g) link_field 0 ≡ l) × (get_or (plain_fields s k l g) gap_field 0 ≡ g)
in_order s k l g = (refl, refl, refl, refl)

-- Questions 5 to 7, one fact each.
pub record Readable (t : List ℕ) : Type 0 where
  pub long : header_length ≤ length t
  pub layout : (layout t ≡ 1) ⊎ (layout t ≡ 2)
  pub bounds : Bounds (text_length t) (settings t).leaf (settings t).arity (settings t).levels (counted_count t)
  pub full_high : full_length t 0 ≤ max_text
  pub counted_rising : rising (settings t).counted ≡ true
  pub counted_size : length (settings t).counted ≡ counted_count t
  pub counted_unused : (x : ℕ) → counted_count t ≤ x → x < max_counted → get_or t (counted_at + x) 0 ≡ 0
  pub count_unused : (l : ℕ) → (settings t).levels ≤ l → l < max_levels → level_count t l ≡ 0
  pub offset_unused : (l : ℕ) → (settings t).levels ≤ l → l < max_levels → level_offset t l ≡ 0
  pub level0 : level_count t 0 ≡ pieces (text_length t) (full_length t 0)
  pub level_at : (l : ℕ) → l < (settings t).levels → level_offset t l ≡ header_length + sum_below l (level_count t) * record_size t
  pub leaf-at : leaf_offset t ≡ header_length + sum_below (settings t).levels (level_count t) * record_size t
  pub size : length t ≡ leaf_offset t + leaf_count t

-- A question that is checked first passes only if its test holds.
pub ask-test : (q : ℕ) (b : Bool) (rest : ℕ) → ask (suc q) b rest ≡ 0 → b ≡ true
ask-test q true rest h = refl
ask-test q false rest h = absurd (let z : ⊥ = omega arith in z)

pub ask-rest : (q : ℕ) (b : Bool) (rest : ℕ) → ask (suc q) b rest ≡ 0 → rest ≡ 0
ask-rest q true rest h = h
ask-rest q false rest h = absurd (let z : ⊥ = omega arith in z)

-- The tests of question 7, in order.
record Header (t : List ℕ) : Type 0 where
  text : length_ok (text_length t) ≡ true
  sizes : sizes_ok (settings t) ≡ true
  counted : (leb (counted_count t) max_counted && counted_ok (settings t).counted) ≡ true
  zero_bytes : (x : ℕ) → x < max_counted - counted_count t → eqb (get_or t (counted_at + counted_count t + x) 0) 0 ≡ true
  zero_levels : (x : ℕ) → x < max_levels - (settings t).levels
      → (eqb (level_count t ((settings t).levels + x)) 0 && eqb (level_offset t ((settings t).levels + x)) 0) ≡ true
  level0 : eqb (level_count t 0) (pieces (text_length t) (full_length t 0)) ≡ true
  level_at : (l : ℕ) → l < (settings t).levels → eqb (level_offset t l) (header_length + sum_below l (level_count t) * record_size t) ≡ true
  leaf-at : eqb (leaf_offset t) (header_length + sum_below (settings t).levels (level_count t) * record_size t) ≡ true
  size : eqb (length t) (leaf_offset t + leaf_count t) ≡ true

header : (t : List ℕ) → is_header_ok t ≡ true → Header t
unfolding is_header_ok
header t h =
    let k = counted_count t in
    let H = (settings t).levels in
    let bytes : ℕ → Bool = λ x. eqb (get_or t (counted_at + k + x) 0) 0 in
    let levels : ℕ → Bool = λ x. eqb (level_count t (H + x)) 0 && eqb (level_offset t (H + x)) 0 in
    let offsets : ℕ → Bool = λ l. eqb (level_offset t l) (header_length + sum_below l (level_count t) * record_size t) in
    let a =
    parts (length_ok (text_length t))
    (sizes_ok (settings t) ∷ (leb k max_counted && counted_ok (settings t).counted) ∷ all_below (max_counted - k) bytes ∷ all_below (max_levels - H) levels
    ∷ eqb (level_count t 0) (pieces (text_length t) (full_length t 0)) ∷ all_below H offsets
    ∷ eqb (leaf_offset t) (header_length + sum_below H (level_count t) * record_size t) ∷ eqb (length t) (leaf_offset t + leaf_count t) ∷ []) h in
    let b = a.1.1.1 in
    let c = b.1.1.1 in record {
      text = a.0;
      sizes = a.1.0;
      counted = a.1.1.0;
      zero_bytes = all_below-at (max_counted - k) bytes b.0;
      zero_levels = all_below-at (max_levels - H) levels b.1.0;
      level0 = b.1.1.0;
      level_at = all_below-at H offsets c.0;
      leaf-at = c.1.0;
      size = c.1.1.0;
    }

counted-length : (t : List ℕ) → header_length ≤ length t → counted_count t ≤ max_counted → length (settings t).counted ≡ counted_count t
unfolding settings
counted-length t long few = simp (length-take, length-drop) (omega arith)

full-length-top : (t : List ℕ) → full_length t 0 ≡ (settings t).leaf * (settings t).arity ^ ((settings t).levels - 1)
unfolding full_length
full-length-top t = length-top (settings t)

layout-cases : (t : List ℕ) → layout_ok t ≡ true → (layout t ≡ 1) ⊎ (layout t ≡ 2)
unfolding layout_ok
layout-cases t h = go (or_cases (eqb (layout t) 1) (eqb (layout t) 2) h)
  where
    go : (eqb (layout t) 1 ≡ true) ⊎ (eqb (layout t) 2 ≡ true) → (layout t ≡ 1) ⊎ (layout t ≡ 2)
    go (inl e) = inl (eqb-true (layout t) 1 e)
    go (inr e) = inr (eqb-true (layout t) 2 e)

pub header-facts : (t : List ℕ) → header_result t ≡ 0 → Readable t
unfolding header_result holds_header length_ok counted_ok
header-facts t h =
    let five = ask-test 4 (holds_header t) (ask 6 (layout_ok t) (ask 7 (is_header_ok t) 0)) h in
    let after5 = ask-rest 4 (holds_header t) (ask 6 (layout_ok t) (ask 7 (is_header_ok t) 0)) h in
    let six = ask-test 5 (layout_ok t) (ask 7 (is_header_ok t) 0) after5 in
    let d = header t (ask-test 6 (is_header_ok t) 0 (ask-rest 5 (layout_ok t) (ask 7 (is_header_ok t) 0) after5)) in
    let long : header_length ≤ length t = leb-true header_length (length t) five in
    let k = counted_count t in
    let few : k ≤ max_counted = leb-true k max_counted (and_left (leb k max_counted) (counted_ok (settings t).counted) d.counted) in
    let z = within-bounds (text_length t) k (settings t) (leb-true (text_length t) max_text d.text) d.sizes few in
    let H = (settings t).levels in
    let counted = and_right (leb k max_counted) (counted_ok (settings t).counted) d.counted in
    let unused : (l : ℕ) → H ≤ l → l < max_levels → (eqb (level_count t l) 0 && eqb (level_offset t l) 0) ≡ true =
    λ l lo hi. (let e : H + (l - H) ≡ l = omega arith in rw e at (d.zero_levels (l - H) (omega arith))) in record {
      long = long;
      layout = layout-cases t six;
      bounds = z;
      full_high = rw (full-length-top t) z.top_high;
      counted_rising = and_right (leb (length (settings t).counted) max_counted) (rising (settings t).counted) counted;
      counted_size = counted-length t long few;
      counted_unused = λ x lo hi. (let e : counted_at + k + (x - k) ≡ counted_at + x = omega arith in
          rw e at (eqb-true (get_or t (counted_at + k + (x - k)) 0) 0 (d.zero_bytes (x - k) (omega arith))));
      count_unused = λ l lo hi. eqb-true _ _ (and_left (eqb (level_count t l) 0) (eqb (level_offset t l) 0) (unused l lo hi));
      offset_unused = λ l lo hi. eqb-true _ _ (and_right (eqb (level_count t l) 0) (eqb (level_offset t l) 0) (unused l lo hi));
      level0 = eqb-true _ _ d.level0;
      level_at = λ l hl. eqb-true _ _ (d.level_at l hl);
      leaf-at = eqb-true _ _ d.leaf-at;
      size = eqb-true (length t) (leaf_offset t + leaf_count t) d.size;
    }

module _ (t : List ℕ) (k : Readable t) where
  -- Block lengths.

  pub full-step : (l : ℕ) → l + 1 < (settings t).levels → full_length t l ≡ full_length t (l + 1) * (settings t).arity
  unfolding full_length
  full-step = length-step (settings t) k.bounds

  pub full-pos : (l : ℕ) → 0 < full_length t l
  unfolding full_length
  full-pos = length-pos (settings t) k.bounds

  pub full-last : full_length t ((settings t).levels - 1) ≡ (settings t).leaf
  unfolding full_length
  full-last = length_last (settings t) k.bounds

  pub full-falls : (l j : ℕ) → l ≤ j → full_length t j ≤ full_length t l
  unfolding full_length
  full-falls = length-falls (settings t) k.bounds

  pub full-small : (l : ℕ) → full_length t l ≤ max_text
  full-small l = le_trans (full-falls 0 l (omega arith)) k.full_high

  -- Offsets in the bytes of the tree.

  pub size_low : field_bytes (counted_count t) ≤ record_size t
  unfolding record_size
  size_low = record-low (layout t) (settings t).leaf (counted_count t)

  pub size-high : record_size t ≤ max_record
  unfolding record_size
  size-high = record-high (layout t) (settings t).leaf (counted_count t) k.bounds.leaf_high k.bounds.counted_high

  pub size-edged : layout t ≡ 2 → record_size t ≡ field_bytes (counted_count t) + ((settings t).leaf + (settings t).leaf)
  unfolding record_size
  size-edged = record-edged (layout t) (settings t).leaf (counted_count t)

  -- Each byte of each record lies before the leaf bytes.
  pub byte_inside : (l i x : ℕ) → l < (settings t).levels → i < level_count t l → x ≤ record_size t
      → level_offset t l + i * record_size t + x ≤ leaf_offset t
  byte_inside l i x hl hi hx =
      let R = record_size t in
      let S = sum_below l (level_count t) in
      let part = sum_below-part (settings t).levels (level_count t) l hl in
      let whole : (S + (i + 1)) * R ≤ sum_below (settings t).levels (level_count t) * R = mul-le-mul_right R (omega (arith, part)) in
      omega (arith, k.level_at l hl, k.leaf-at, add-mul S (i + 1) R, add-mul i 1 R)

  -- Each word of a record is inside the tree.
  pub record-inside : (l i f : ℕ) → l < (settings t).levels → i < level_count t l → f < field_count (counted_count t)
      → level_offset t l + i * record_size t + 4 * f + 4 ≤ leaf_offset t
  record-inside l i f hl hi hf = omega (arith, byte_inside l i (4 * f + 4) hl hi (omega (arith, size_low)))

  -- In layout 2 the edges of a record are inside the tree.
  pub edges-inside : (l i : ℕ) → layout t ≡ 2 → l < (settings t).levels → i < level_count t l
      → edges_at t l i + ((settings t).leaf + (settings t).leaf) ≤ leaf_offset t
  unfolding edges_at
  edges-inside l i two hl hi = omega (arith, byte_inside l i (record_size t) hl hi (omega arith), size-edged two)

  pub leaf-start-inside : leaf_offset t ≤ length t
  leaf-start-inside = omega (arith, k.size)

  pub word-inside : (l i f : ℕ) → l < (settings t).levels → i < level_count t l → f < field_count (counted_count t)
      → level_offset t l + i * record_size t + 4 * f + 4 ≤ length t
  word-inside l i f hl hi hf = le_trans (record-inside l i f hl hi hf) leaf-start-inside

  pub leaf-inside : (x : ℕ) → x < leaf_count t → leaf_offset t + x < length t
  leaf-inside x h = omega (arith, k.size)

  -- The block of level 0 that holds a place of the text is in the table.
  pub level0-holds : (p : ℕ) → p < text_length t → p / full_length t 0 < level_count t 0
  level0-holds p h = rw k.level0 (pieces-hold (text_length t) (full_length t 0) p (full-pos 0) h)
