-- `without_edges` leaves a tree of layout 1 unchanged.
use Rattle.std.specs.Prelude.{List, ◌≡◌, ◌⊎◌, ℕ, zero, suc, ◌+◌, ◌-◌, ◌*◌, ◌/◌, ◌%◌, ◌≤◌, ◌<◌, length, get_or}
use Rattle.std.proofs.Common.{sym, ◌∙◌, inl, inr, arith, div-add-mod', div-lt_iff_lt-mul, mod-lt, ext_get_or}
use Rattle.text.specs.ListLaws.{lt-or-ge}
use Rattle.format.specs.Layout.{word_at, word_bytes, layout_at, pairs_at, offset_at, leaf_offset_at, header_length}
use Rattle.format.specs.SizeLaws.{record-plain}
use Rattle.format.specs.LayoutLaws.{Readable}
use Rattle.format.specs.Layout as at
use Rattle.theory_built.specs.BuiltBytes.{BytesAt}
use Rattle.theory_without_edges.specs.WithoutEdges.{AllBytes, layout1_record_size, layout1_offset, record_count, without_edges}
use Rattle.theory_without_edges.proofs.Layout1Sizes as sizes
use Rattle.theory_without_edges.proofs.Layout1Bytes as bytes

-- Four bytes are the digits of their word in base 256.
digits_of : (a b c d w : ℕ) → a < 256 → b < 256 → c < 256 → d < 256 → a + 256 * b + 65536 * c + 16777216 * d ≡ w
    → (a ≡ w % 256) × (b ≡ w / 256 % 256) × (c ≡ w / 65536 % 256) × (d ≡ w / 16777216 % 256)
digits_of a b c d w ha hb hc hd is =
    let second : w / 256 ≡ b + 256 * c + 65536 * d = omega arith in
    let third : w / 65536 ≡ c + 256 * d = omega arith in
    let fourth : w / 16777216 ≡ d = omega arith in
    (omega arith, rw second (omega arith), rw third (omega arith), rw fourth (omega arith))

pub word-bytes : (t : List ℕ) → AllBytes t → (i w : ℕ) → word_at t i ≡ w → BytesAt t i w
unfolding word_at word_bytes
word-bytes t byte i w is zero l =
    let e : i + 0 ≡ i = omega arith in
    rw e (digits_of (get_or t i 0) (get_or t (i + 1) 0) (get_or t (i + 2) 0) (get_or t (i + 3) 0) w (byte i) (byte (i + 1)) (byte (i + 2)) (byte (i + 3)) is).0
word-bytes t byte i w is (suc zero) l =
    (digits_of (get_or t i 0) (get_or t (i + 1) 0) (get_or t (i + 2) 0) (get_or t (i + 3) 0) w (byte i) (byte (i + 1)) (byte (i + 2)) (byte (i + 3)) is).1
word-bytes t byte i w is (suc (suc zero)) l =
    (digits_of (get_or t i 0) (get_or t (i + 1) 0) (get_or t (i + 2) 0) (get_or t (i + 3) 0) w (byte i) (byte (i + 1)) (byte (i + 2)) (byte (i + 3)) is).2
word-bytes t byte i w is (suc (suc (suc zero))) l =
    (digits_of (get_or t i 0) (get_or t (i + 1) 0) (get_or t (i + 2) 0) (get_or t (i + 3) 0) w (byte i) (byte (i + 1)) (byte (i + 2)) (byte (i + 3)) is).3
word-bytes t byte i w is (suc (suc (suc (suc r)))) l = absurd (let z : ⊥ = omega arith in z)

module _ (t : List ℕ) (byte : AllBytes t) (k : Readable t) (edgeless : at.layout t ≡ 1) where
  abbrev u : List ℕ
  u = without_edges t

  abbrev H : ℕ
  H = (at.settings t).levels

  size_same : at.record_size t ≡ layout1_record_size t
  unfolding at.record_size layout1_record_size
  size_same = record-plain (at.layout t) (at.settings t).leaf (at.counted_count t) (λ z. omega (arith, edgeless))

  offset-same : (l : ℕ) → l < H → layout1_offset t l ≡ at.level_offset t l
  offset-same l h = rw (k.level_at l h, size_same) (sizes.offset_is t l)

  leaf-same : layout1_offset t H ≡ at.leaf_offset t
  leaf-same = rw (sizes.leaf-at t k, size_same) (sizes.offset-end t)

  -- A word overwritten by itself.
  anew : (i v : ℕ) → BytesAt u i v → word_at t i ≡ v → (x : ℕ) → i ≤ x → x < i + 4 → get_or u x 0 ≡ get_or t x 0
  anew i v s is x lo hi =
      let e : i + (x - i) ≡ x = omega arith in
      rw e at (s (x - i) (omega arith) ∙ sym (word-bytes t byte i v is (x - i) (omega arith)))

  layout-anew : (x : ℕ) → x < 4 → get_or u x 0 ≡ get_or t x 0
  unfolding at.layout
  layout-anew x h = anew layout_at 1 (bytes.layout-bytes t k) edgeless x (omega arith) (omega arith)

  leaf-anew : (x : ℕ) → leaf_offset_at ≤ x → x < leaf_offset_at + 4 → get_or u x 0 ≡ get_or t x 0
  unfolding at.leaf_offset
  leaf-anew x lo hi = anew leaf_offset_at (layout1_offset t H) (bytes.leaf-offset-bytes t k) (sym leaf-same) x lo hi

  offset-anew : (l : ℕ) → l < H → (x : ℕ) → offset_at l ≤ x → x < offset_at l + 4 → get_or u x 0 ≡ get_or t x 0
  unfolding at.level_offset
  offset-anew l h x lo hi = anew (offset_at l) (layout1_offset t l) (bytes.offset-bytes t k l h) (sym (offset-same l h)) x lo hi

  header-byte : (x : ℕ) → x < header_length → get_or u x 0 ≡ get_or t x 0
  header-byte x h =
      go (lt-or-ge x 4) (lt-or-ge x pairs_at) (lt-or-ge x leaf_offset_at) (lt-or-ge x (leaf_offset_at + 4)) (lt-or-ge ((x - pairs_at) % 8) 4)
      (lt-or-ge ((x - pairs_at) / 8) H)
    where
      stays : 4 ≤ x → (leaf_offset_at ≤ x → x < leaf_offset_at + 4 → ⊥) → ((l : ℕ) → l < H → offset_at l ≤ x → x < offset_at l + 4 → ⊥)
          → get_or u x 0 ≡ get_or t x 0
      stays a b c = bytes.kept_byte t k x (record { inside = h; not_layout = omega arith; not_leaves = b; not_offset = c })

      go : (x < 4) ⊎ (4 ≤ x) → (x < pairs_at) ⊎ (pairs_at ≤ x) → (x < leaf_offset_at) ⊎ (leaf_offset_at ≤ x)
          → (x < leaf_offset_at + 4) ⊎ (leaf_offset_at + 4 ≤ x)
          → ((x - pairs_at) % 8 < 4) ⊎ (4 ≤ (x - pairs_at) % 8) → ((x - pairs_at) / 8 < H) ⊎ (H ≤ (x - pairs_at) / 8) → get_or u x 0 ≡ get_or t x 0
      go (inl a) b c d e f = layout-anew x a
      go (inr a) (inl b) c d e f = stays a (λ y z. omega arith) (λ l m y z. omega arith)
      go (inr a) (inr b) (inl c) d (inl e) f = stays a (λ y z. omega arith) (λ l m y z. omega arith)
      go (inr a) (inr b) (inl c) d (inr e) (inl f) = offset-anew ((x - pairs_at) / 8) f x (omega arith) (omega arith)
      go (inr a) (inr b) (inl c) d (inr e) (inr f) = stays a (λ y z. omega arith) (λ l m y z. omega arith)
      go (inr a) (inr b) (inr c) (inl d) e f = leaf-anew x c d
      go (inr a) (inr b) (inr c) (inr d) e f = stays a (λ y z. omega arith) (λ l m y z. omega (arith, k.bounds.levels_high))

  body-byte : (x : ℕ) → header_length ≤ x → x < layout1_offset t H → get_or u x 0 ≡ get_or t x 0
  body-byte x lo hi =
      let W = layout1_record_size t in
      let y : ℕ = x - header_length in
      let some : 0 < W = omega (arith, sizes.size_is t) in
      let e : header_length + y / W * W + y % W ≡ x = omega (arith, div-add-mod' y W) in
      let j : y / W < record_count t = (div-lt_iff_lt-mul {k = W} {x = y} {y = record_count t} some).1 (omega (arith, sizes.offset-end t)) in
      rw (size_same, e) at (bytes.record-byte t k (y / W) (y % W) j (mod-lt y some))

  length-same : length u ≡ length t
  length-same = sizes.layout1-length t k ∙ rw (leaf-same, k.size)

  pub layout1-same : without_edges t ≡ t
  layout1-same = ext_get_or 0 u t length-same (λ x h. at x (lt-or-ge x header_length) (lt-or-ge x (layout1_offset t H)))
    where
      at : (x : ℕ) → (x < header_length) ⊎ (header_length ≤ x) → (x < layout1_offset t H) ⊎ (layout1_offset t H ≤ x) → get_or u x 0 ≡ get_or t x 0
      at x (inl a) b = header-byte x a
      at x (inr a) (inl b) = body-byte x a b
      at x (inr a) (inr b) =
          let e : layout1_offset t H + (x - layout1_offset t H) ≡ x = omega arith in
          rw (← leaf-same, e) at (bytes.leaf-byte t k (x - layout1_offset t H))
