-- Each byte of `without_edges`: of the header, of the records, of the leaves.
use mathlib.Core.List.{List, ◌++◌}
use Rattle.std.specs.Prelude.{◌≡◌, ◌⊎◌, take, drop}
use Rattle.std.proofs.Math.Path.{refl, ap}
use Rattle.std.proofs.Common.{◌∙◌, inl, inr, length-append, length-drop, length-take-le, take_all}
use Prim.Native.Nat.{ℕ, zero, suc, ◌+◌, ◌*◌, ◌≤◌, ◌<◌}
use native.Mathlib.Omega.{arith}
use Rattle.std.proofs.Math.ListN.{length, get_or, get_or-append}
use Rattle.std.proofs.Math.Seq.{get_or-append-add, get_or-take, get_or-drop}
use Rattle.std.proofs.Math.Arith.{digits_lt}
use Rattle.text.specs.ListLaws.{below_suc}
use Rattle.text.specs.Text.{substring}
use Rattle.text.specs.TextLaws.{get_or-substring}
use Rattle.format.specs.Layout.{word_at, word_bytes, set_word, max_levels, layout_at, offset_at, leaf_offset_at, header_length}
use Rattle.format.specs.WordLaws.{length-set_word, get_or-set_word-other}
use Rattle.format.specs.LayoutLaws.{Readable}
use Rattle.format.specs.Layout as at
use Rattle.theory_built.specs.Gather.{get_or-concat}
use Rattle.theory_built.specs.BuiltBytes.{BytesAt, written-word}
use Rattle.theory_without_edges.specs.WithoutEdges.{edgeless_layout, layout1_record_size, layout1_offset, offsets_in, layout1_header}
use Rattle.theory_without_edges.specs.WithoutEdges.{record_count, layout1_record, layout1_records, layout1_leaf_bytes, without_edges}
use Rattle.theory_without_edges.proofs.Layout1Sizes as sizes

-- Words of equal bytes are equal.
pub word_same : (t u : List ℕ) (p q : ℕ) → ((r : ℕ) → r < 4 → get_or u (p + r) 0 ≡ get_or t (q + r) 0) → word_at u p ≡ word_at t q
unfolding word_at
word_same t u p q same = rw (first, same 1 (omega arith), same 2 (omega arith), same 3 (omega arith))
  where
    first : get_or u p 0 ≡ get_or t q 0
    first =
        let e : p + 0 ≡ p = omega arith in
        let f : q + 0 ≡ q = omega arith in
        rw (e, f) at (same 0 (omega arith))

module _ (t : List ℕ) where
  -- The header's offsets, and its other bytes.

  offsets-other : (n : ℕ) (h : List ℕ) (x : ℕ) → ((l : ℕ) → l < n → offset_at l ≤ x → x < offset_at l + 4 → ⊥)
      → get_or (offsets_in t n h) x 0 ≡ get_or h x 0
  unfolding offsets_in
  offsets-other zero h x out = refl
  offsets-other (suc n) h x out =
      get_or-set_word-other (offsets_in t n h) (offset_at n) (layout1_offset t n) x (λ a b. out n (omega arith) a b)
      ∙ offsets-other n h x (λ l below a b. out l (omega arith) a b)

  offsets-bytes : (n : ℕ) (h : List ℕ) → n ≤ max_levels → length h ≡ header_length → (l : ℕ) → l < n
      → BytesAt (offsets_in t n h) (offset_at l) (layout1_offset t l)
  unfolding offsets_in
  offsets-bytes zero h few long l below = absurd (let z : ⊥ = omega arith in z)
  offsets-bytes (suc n) h few long l below = go (below_suc l n below) (offsets-bytes n h (omega arith) long l)
    where
      go : (l < n) ⊎ (l ≡ n) → (l < n → BytesAt (offsets_in t n h) (offset_at l) (layout1_offset t l))
          → BytesAt (set_word (offsets_in t n h) (offset_at n) (layout1_offset t n)) (offset_at l) (layout1_offset t l)
      go (inl y) before =
          λ r m. get_or-set_word-other (offsets_in t n h) (offset_at n) (layout1_offset t n) (offset_at l + r) (λ a b. omega arith) ∙ before y r m
      go (inr y) before = rw y (written-word (offsets_in t n h) (offset_at n) (layout1_offset t n) (omega (arith, sizes.length-offsets t n h)))

  module _ (k : Readable t) where
    abbrev H : ℕ
    H = (at.settings t).levels

    abbrev start : List ℕ
    start = take header_length t

    abbrev marked : List ℕ
    marked = set_word start layout_at edgeless_layout

    long : length start ≡ header_length
    long = length-take-le header_length t k.long

    long-marked : length marked ≡ header_length
    long-marked = length-set_word start layout_at edgeless_layout ∙ long

    long-offsets : length (offsets_in t H marked) ≡ header_length
    long-offsets = sizes.length-offsets t H marked ∙ long-marked

    -- A byte outside the overwritten words.
    pub record Kept (x : ℕ) : Type 0 where
      pub inside : x < header_length
      pub not_layout : layout_at + 4 ≤ x
      pub not_leaves : leaf_offset_at ≤ x → x < leaf_offset_at + 4 → ⊥
      pub not_offset : (l : ℕ) → l < H → offset_at l ≤ x → x < offset_at l + 4 → ⊥

    pub front : (x : ℕ) → x < header_length → get_or (without_edges t) x 0 ≡ get_or (layout1_header t) x 0
    unfolding without_edges
    front x h =
        let size = sizes.length-layout1-header t k.long in
        get_or-append (layout1_header t ++ layout1_records t) (layout1_leaf_bytes t) 0 x
        (rw (length-append (layout1_header t) (layout1_records t), size) (omega arith))
        ∙ get_or-append (layout1_header t) (layout1_records t) 0 x (rw size h)

    pub kept_byte : (x : ℕ) → Kept x → get_or (without_edges t) x 0 ≡ get_or t x 0
    unfolding layout1_header
    kept_byte x h =
        front x h.inside
        ∙ get_or-set_word-other (offsets_in t H marked) leaf_offset_at (layout1_offset t H) x (λ a b. h.not_leaves a b)
        ∙ offsets-other H marked x h.not_offset
        ∙ get_or-set_word-other start layout_at edgeless_layout x (λ a b. omega (arith, h.not_layout))
        ∙ get_or-take header_length t x 0 h.inside

    in-front : (i v : ℕ) → i + 4 ≤ header_length → BytesAt (layout1_header t) i v → BytesAt (without_edges t) i v
    in-front i v fits s r l = front (i + r) (omega arith) ∙ s r l

    pub layout-bytes : BytesAt (without_edges t) layout_at edgeless_layout
    unfolding layout1_header
    layout-bytes = in-front layout_at edgeless_layout (omega arith) here
      where
        here : BytesAt (layout1_header t) layout_at edgeless_layout
        here r l =
            get_or-set_word-other (offsets_in t H marked) leaf_offset_at (layout1_offset t H) (layout_at + r) (λ a b. omega arith)
            ∙ offsets-other H marked (layout_at + r) (λ x h a b. omega arith)
            ∙ written-word start layout_at edgeless_layout (omega (arith, long)) r l

    pub offset-bytes : (l : ℕ) → l < H → BytesAt (without_edges t) (offset_at l) (layout1_offset t l)
    unfolding layout1_header
    offset-bytes l h = in-front (offset_at l) (layout1_offset t l) (omega (arith, k.bounds.levels_high)) here
      where
        here : BytesAt (layout1_header t) (offset_at l) (layout1_offset t l)
        here r m =
            get_or-set_word-other (offsets_in t H marked) leaf_offset_at (layout1_offset t H) (offset_at l + r) (λ a b. omega (arith, k.bounds.levels_high))
            ∙ offsets-bytes H marked k.bounds.levels_high long-marked l h r m

    pub leaf-offset-bytes : BytesAt (without_edges t) leaf_offset_at (layout1_offset t H)
    unfolding layout1_header
    leaf-offset-bytes = in-front leaf_offset_at (layout1_offset t H) (omega arith) here
      where
        here : BytesAt (layout1_header t) leaf_offset_at (layout1_offset t H)
        here = written-word (offsets_in t H marked) leaf_offset_at (layout1_offset t H) (omega (arith, long-offsets))

    -- The records: byte x of the words of the j-th.
    pub record-byte : (j x : ℕ) → j < record_count t → x < layout1_record_size t
        → get_or (without_edges t) (header_length + j * layout1_record_size t + x) 0 ≡ get_or t (header_length + j * at.record_size t + x) 0
    unfolding without_edges layout1_records layout1_record
    record-byte j x hj hx =
        let W = layout1_record_size t in
        let head = sizes.length-layout1-header t k.long in
        let place : header_length + j * W + x ≡ length (layout1_header t) + (j * W + x) = omega (arith, head) in
        let below : j * W + x < length (layout1_records t) = rw (sizes.length-layout1-records t k) (digits_lt hj hx) in
        rw place
        (get_or-append (layout1_header t ++ layout1_records t) (layout1_leaf_bytes t) 0 _ (rw (length-append (layout1_header t) (layout1_records t)) (omega arith))
        ∙ get_or-append-add (layout1_header t) (layout1_records t) (j * W + x) 0 ∙ among)
      where
        among : get_or (layout1_records t) (j * layout1_record_size t + x) 0 ≡ get_or t (header_length + j * at.record_size t + x) 0
        among =
            rw (← sizes.records-before t k j (omega arith))
            (get_or-concat (record_count t) (layout1_record t) j x 0 hj (rw (sizes.length-layout1-record t k j hj) hx)
            ∙ get_or-substring t (header_length + j * at.record_size t) (layout1_record_size t) x hx)

    -- The leaf bytes, and nothing after them.
    pub leaf-byte : (x : ℕ) → get_or (without_edges t) (layout1_offset t H + x) 0 ≡ get_or t (at.leaf_offset t + x) 0
    unfolding without_edges layout1_leaf_bytes substring
    leaf-byte x =
        let rest : length (drop (at.leaf_offset t) t) ≤ at.leaf_count t = rw (length-drop (at.leaf_offset t) t) (omega (arith, k.size)) in
        rw (← sizes.length-before-leaves t k)
        (get_or-append-add (layout1_header t ++ layout1_records t) (take (at.leaf_count t) (drop (at.leaf_offset t) t)) x 0
        ∙ ap (λ (y : List ℕ). get_or y x 0) (take_all (at.leaf_count t) (drop (at.leaf_offset t) t) rest) ∙ get_or-drop (at.leaf_offset t) t x 0)
