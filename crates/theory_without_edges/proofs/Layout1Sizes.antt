-- The lengths of `without_edges` and of its parts, and the bounds of its offsets.
use Rattle.std.specs.Prelude.{List, ◌++◌, ◌≡◌, length}
use Rattle.std.proofs.Math.Path.{refl}
use Rattle.std.proofs.Common.{◌∙◌, arith, add-mul, mul-le-mul_right, mul-le-mul_left, length-append}
use Prim.Native.Nat.{ℕ, zero, suc, ◌+◌, ◌*◌, ◌≤◌, ◌<◌}
use Rattle.std.proofs.Math.ListN.{take}
use Rattle.std.proofs.Math.Seq.{length-take-le}
use Rattle.text.specs.Text.{sum_below}
use Rattle.text.specs.ListLaws.{sum_below-ext}
use Rattle.text.specs.TextLaws.{length-substring}
use Rattle.format.specs.Layout.{set_word, field_bytes, layout_at, offset_at, leaf_offset_at, header_length}
use Rattle.format.specs.WordLaws.{length-set_word}
use Rattle.format.specs.LayoutLaws.{Readable, size_low}
use Rattle.format.specs.Layout as at
use Rattle.theory_built.specs.Gather.{length-concat, sum_below-same, sum_below-le}
use Rattle.theory_without_edges.specs.WithoutEdges.{edgeless_layout, layout1_record_size, layout1_offset, offsets_in, layout1_header}
use Rattle.theory_without_edges.specs.WithoutEdges.{record_count, layout1_record, layout1_records, layout1_leaf_bytes, without_edges}

module _ (t : List ℕ) where
  pub length-offsets : (n : ℕ) (h : List ℕ) → length (offsets_in t n h) ≡ length h
  unfolding offsets_in
  length-offsets zero h = refl
  length-offsets (suc n) h = length-set_word (offsets_in t n h) (offset_at n) (layout1_offset t n) ∙ length-offsets n h

  pub length-layout1-header : header_length ≤ length t → length (layout1_header t) ≡ header_length
  unfolding layout1_header
  length-layout1-header long =
      let H = (at.settings t).levels in
      let h = take header_length t in
      length-set_word (offsets_in t H (set_word h layout_at edgeless_layout)) leaf_offset_at (layout1_offset t H)
      ∙ length-offsets H (set_word h layout_at edgeless_layout) ∙ length-set_word h layout_at edgeless_layout ∙ length-take-le header_length t long

  pub size_is : field_bytes (at.counted_count t) ≡ layout1_record_size t
  unfolding layout1_record_size
  size_is = refl

  pub offset_is : (l : ℕ) → layout1_offset t l ≡ header_length + sum_below l (at.level_count t) * layout1_record_size t
  unfolding layout1_offset
  offset_is l = refl

  pub count_is : record_count t ≡ sum_below (at.settings t).levels (at.level_count t)
  unfolding record_count
  count_is = refl

  -- The leaf bytes begin after all records.
  pub offset-end : layout1_offset t (at.settings t).levels ≡ header_length + record_count t * layout1_record_size t
  offset-end = rw (offset_is (at.settings t).levels, count_is)

  module _ (k : Readable t) where
    -- A record is no longer without its edges.
    pub layout1-record-small : layout1_record_size t ≤ at.record_size t
    layout1-record-small = rw (← size_is) (size_low t k)

    pub leaf-at : at.leaf_offset t ≡ header_length + record_count t * at.record_size t
    leaf-at = rw count_is k.leaf-at

    -- The words of record j lie before the leaf bytes.
    pub record-inside : (j : ℕ) → j < record_count t → header_length + j * at.record_size t + layout1_record_size t ≤ at.leaf_offset t
    record-inside j h =
        let R = at.record_size t in
        let whole : (j + 1) * R ≤ record_count t * R = mul-le-mul_right R (omega arith) in
        omega (arith, leaf-at, add-mul j 1 R, layout1-record-small)

    -- No offset becomes larger.
    pub offset-falls : (l : ℕ) → l ≤ (at.settings t).levels → layout1_offset t l ≤ at.leaf_offset t
    offset-falls l h =
        let part : sum_below l (at.level_count t) * layout1_record_size t ≤ record_count t * layout1_record_size t =
        mul-le-mul_right (layout1_record_size t) (rw count_is (sum_below-le (at.settings t).levels (at.level_count t) l h)) in
        omega (arith, part, offset_is l, leaf-at, mul-le-mul_left (record_count t) layout1-record-small)

    pub length-layout1-record : (j : ℕ) → j < record_count t → length (layout1_record t j) ≡ layout1_record_size t
    unfolding layout1_record
    length-layout1-record j h = length-substring t _ (layout1_record_size t) (omega (arith, record-inside j h, k.size))

    pub records-before : (n : ℕ) → n ≤ record_count t → sum_below n (λ j. length (layout1_record t j)) ≡ n * layout1_record_size t
    records-before n h = sum_below-ext n _ _ (λ j l. length-layout1-record j (omega arith)) ∙ sum_below-same n (layout1_record_size t)

    pub length-layout1-records : length (layout1_records t) ≡ record_count t * layout1_record_size t
    unfolding layout1_records
    length-layout1-records = length-concat (record_count t) (layout1_record t) ∙ records-before (record_count t) (omega arith)

    pub length-layout1-leaves : length (layout1_leaf_bytes t) ≡ at.leaf_count t
    unfolding layout1_leaf_bytes
    length-layout1-leaves = length-substring t (at.leaf_offset t) (at.leaf_count t) (omega (arith, k.size))

    pub length-before-leaves : length (layout1_header t ++ layout1_records t) ≡ layout1_offset t (at.settings t).levels
    length-before-leaves = rw (length-append (layout1_header t), length-layout1-header k.long, length-layout1-records, offset-end)

    -- The size: header, words of all records, leaf bytes.
    pub layout1-length : length (without_edges t) ≡ layout1_offset t (at.settings t).levels + at.leaf_count t
    unfolding without_edges
    layout1-length = rw (length-append (layout1_header t ++ layout1_records t), length-before-leaves, length-layout1-leaves)

    -- The size is at most the tree's.
    pub layout1-shorter : length (without_edges t) ≤ length t
    layout1-shorter = omega (arith, layout1-length, offset-falls (at.settings t).levels (omega arith), k.size)
