-- The bytes of a segment, copied to a buffer: of leaf bytes, and of segments that follow each other; and the span that is copied so.
use mathlib.Core.List.{List, ◌++◌}
use mathlib.Core.Option.{Option, none, some}
use mathlib.Core.Bool.{true, false}
use mathlib.Core.Logic.{◌⊎◌, inl, inr}
use mathlib.Core.Path.{◌≡◌, refl, sym, ap, ◌∙◌}
use Prim.Native.Nat.{ℕ, zero, suc, ◌+◌, ◌-◌, ◌/◌, ◌≤◌, ◌<◌}
use native.Mathlib.Omega.{arith}
use native.Mathlib.Nat.{add_assoc}
use borrow.Author.Tests.{lt-ltb, le-ltb}
use lib.Dec.{ltb}
use lib.ListN.{length, drop, replicate}
use lib.Seq.{drop-set-lt}
use Rattle.text.specs.Text.{tabulate}
use Rattle.text.specs.ListLaws.{lt-or-ge, bool_cases}
use Rattle.refusals.specs.declared.Refusal.{Refusal}
use Rattle.refusals.specs.Refusals.{refusal_number}
use Rattle.refusals.specs.RefusalsLaws.{number-above}
use Rattle.format.specs.Layout as at
use Rattle.format.specs.Layout.{max_text}
use Rattle.format.specs.TreeReading.{Path, provided, path_of}
use Rattle.format.specs.Answers.{Answer, refused, byte_of, byte_answer, paths_hold}
use Rattle.theory_paths.specs.Links.{b, H}
use Rattle.theory_paths.specs.PlaceBytes.{byte-path, hold_at}
use Rattle.byte_slices.specs.ByteSlices.{bytes_written}
use Rattle.layout.specs.declared.header.Header.{Header}
use Rattle.layout.specs.HeaderFields.{HeaderOf}
use Rattle.query_access.specs.ReadByRuns.{places_written}
use Rattle.walk_ranges.specs.declared.segments.Segment.{Segment}
use Rattle.walk_ranges.specs.declared.segments.Piece.{Piece}
use Rattle.std.specs.Prelude.{Some, None}
use Rattle.std.specs.Prelude as prelude
use Rattle.walk_ranges.specs.Segments.{leaf_number, has_leaf, leaf_from, leaf_in, leaf_value, leaves_written, Copied, SegmentCopied, SegmentAt, NextAt, IsNext}
use Rattle.query_access.proofs.SpanLaws.{ByPaths, values, span-broken}
use Rattle.query_access.proofs.CopyLaws.{copy-known, copy-end}

module _ (t : List ℕ) where
  -- Bytes written in two parts.
  pub leaves-join : (d : List ℕ) (to n m : ℕ) (f g : ℕ → Option ℕ) → ((x : ℕ) → x < m → f (n + x) ≡ g x)
      → leaves_written t (leaves_written t d to f n) (to + n) g m ≡ leaves_written t d to f (n + m)
  leaves-join d to n zero f g same = let z : n + 0 ≡ n = omega arith in rw z
  leaves-join d to n (suc m) f g same =
      let z : n + suc m ≡ suc (n + m) = omega arith in
      rw (z, leaves-join d to n m f g (λ x l. same x (omega arith)), add_assoc to n m, same m (omega arith))

  pub leaves-past : (d : List ℕ) (to n : ℕ) (f : ℕ → Option ℕ) (k : ℕ) → to + n ≤ k → drop k (leaves_written t d to f n) ≡ drop k d
  leaves-past d to zero f k past = refl
  leaves-past d to (suc n) f k past =
      drop-set-lt k (leaves_written t d to f n) (to + n) (leaf_value t (f n)) (omega arith) ∙ leaves-past d to n f k (omega arith)

  leaves-bytes : (d : List ℕ) (to n from leaf : ℕ) (f : ℕ → Option ℕ) → from ≡ at.leaf_offset t + leaf → ((x : ℕ) → x < n → f x ≡ some (leaf + x))
      → bytes_written d to t from n ≡ leaves_written t d to f n
  unfolding at.leaf_byte
  leaves-bytes d to zero from leaf f from_is each = refl
  leaves-bytes d to (suc n) from leaf f from_is each =
      let z : from + n ≡ at.leaf_offset t + (leaf + n) = omega arith in
      rw (leaves-bytes d to n from leaf f from_is (λ x l. each x (omega arith)), each n (omega arith), z)

  -- Leaf bytes.
  leaf-at : (first o : ℕ) → leaf_in t 1 (H t) first o ≡ provided (ltb (first + o) (at.leaf_count t)) (some (first + o))
  unfolding leaf_in leaf_from
  leaf-at first o = let z : H t - H t ≡ 0 = omega arith in rw z

  pub leaves-missing : (first place size to leaf count : ℕ) (d : List ℕ) → 1 ≤ size → leaf ≡ first + place → count ≡ at.leaf_count t → count < leaf + size
      → SegmentCopied t 1 (H t) first place size to d d 14
  unfolding SegmentCopied
  leaves-missing first place size to leaf count d least leaf_is count_is past = (
    refl,
    (
      size - 1,
      omega arith,
      leaf-at first (place + (size - 1)) ∙ rw (le-ltb (first + (place + (size - 1))) (at.leaf_count t) (omega arith)),
    ),
    λ k l. refl,
  )

  pub leaves-copied : (first place size to leaf count from : ℕ) (d e : List ℕ) → leaf ≡ first + place → count ≡ at.leaf_count t → leaf + size ≤ count
      → from ≡ at.leaf_offset t + leaf → e ≡ bytes_written d to t from size → SegmentCopied t 1 (H t) first place size to d e 0
  unfolding SegmentCopied
  leaves-copied first place size to leaf count from d e leaf_is count_is fits from_is e-is =
      let each : (x : ℕ) → x < size → leaf_in t 1 (H t) first (place + x) ≡ some (leaf + x) =
      λ x l. (let z : first + (place + x) ≡ leaf + x = omega arith in
      leaf-at first (place + x) ∙ rw (z, lt-ltb (leaf + x) (at.leaf_count t) (omega arith))) in
      (e-is ∙ leaves-bytes d to size from leaf (λ x. leaf_in t 1 (H t) first (place + x)) from_is each, λ x l. rw (each x l))

-- The rest of a segment of blocks.
pub above : (l h : ℕ) → l ≤ h → (l ≡ h → ⊥) → l < h
above l h low apart = omega arith

pub rest_at : (t : List ℕ) (p size l c o n : ℕ) → SegmentAt t p size l c o n → l < H t → (done : ℕ) → done < n
    → SegmentAt t p size l c (o + done) (n - done)
rest_at t p size l c o n s low done less = record {
  facts = s.facts;
  size_is = s.size_is;
  level_in = s.level_in;
  b_is = s.b_is;
  near = omega (arith, s.near);
  some_leaf = λ past. absurd (let y : ⊥ = omega arith in y);
}

-- Below the last level.
pub leaves-segment : (t : List ℕ) (p l first place n to : ℕ) (d e : List ℕ) (r : ℕ) → l ≡ H t → 1 ≤ p
    → SegmentCopied t 1 (H t) first place n to d e r → SegmentCopied t p l first place n to d e r
unfolding SegmentCopied leaf_in
leaves-segment t zero l first place n to d e r l-is may s = absurd (let y : ⊥ = omega arith in y)
leaves-segment t (suc p) l first place n to d e r l-is may s = rw l-is s

-- A refusal's number is not 0.
pub is-refusal : (q : Refusal) → refusal_number q ≡ 0 → ⊥
is-refusal q e = let low = number-above q in omega arith

missing-byte : (t : List ℕ) (f : ℕ → Option ℕ) (n to : ℕ) (d e : List ℕ) (r : ℕ) → (r ≡ 0 → ⊥) → Copied t f n to d e r
    → (r ≡ 14) × ((x : ℕ) × (x < n) × (f x ≡ none)) × ((k : ℕ) → to + n ≤ k → drop k e ≡ drop k d)
missing-byte t f n to d e zero off c = absurd (off refl)
missing-byte t f n to d e (suc q) off c = (omega (arith, c.0), c.1, c.2)

-- The answer of `next_segment`.
module _ (t : List ℕ) (p l first o most : ℕ) (x : prelude.Option Piece) (x-is : IsNext t p l first o most x) where
  pub next-at : (q : Piece) → x ≡ Some q → NextAt t p l first o most q.segment q.size
  next-at q e = rw e at x-is

  pub next-none : x ≡ None → leaf_in t p l first o ≡ none
  next-none e = rw e at x-is

-- The loop over a segment, from buffer d to buffer e, after some of its bytes.
pub record SegmentUpTo (t : List ℕ) (p l first place to : ℕ) (d e : List ℕ) (done : ℕ) : Type 0 where
  pub bytes : e ≡ leaves_written t d to (λ x. leaf_in t p l first (place + x)) done
  pub found : (x : ℕ) → x < done → has_leaf (leaf_in t p l first (place + x)) ≡ true

module _ (t : List ℕ) (p l first place to : ℕ) (d : List ℕ) where
  pub go-start : SegmentUpTo t p l first place to d d 0
  go-start = record { bytes = refl; found = λ x less. absurd (let y : ⊥ = omega arith in y) }

  module _ (e : List ℕ) (done : ℕ) (g : SegmentUpTo t p l first place to d e done) where
    pub go-end : (size : ℕ) → done ≡ size → SegmentCopied t p l first place size to d e 0
    unfolding SegmentCopied
    go-end size all = rw (← all) (g.bytes, g.found)

    go-past : (k : ℕ) → to + done ≤ k → drop k e ≡ drop k d
    go-past k past = ap (drop k) g.bytes ∙ leaves-past t d to done (λ x. leaf_in t p l first (place + x)) k past

    pub go-off : (size : ℕ) → done < size → leaf_in t p l first (place + done) ≡ none → SegmentCopied t p l first place size to d e 14
    unfolding SegmentCopied
    go-off size less none_is = (refl, (done, less, none_is), λ k past. go-past k (omega arith))

    module _ (most : ℕ) (s : Segment) (n : ℕ) (next : NextAt t p l first (place + done) most s n) (f : List ℕ) (r : ℕ)
        (r-is : SegmentCopied t s.rules.pointers s.on.level s.from.block.0 s.from.place.0 n (to + done) e f r) where
      same_at : (x : ℕ) → x < n
          → leaf_in t p l first (place + (done + x)) ≡ leaf_in t s.rules.pointers s.on.level s.from.block.0 (s.from.place.0 + x)
      same_at x less = rw (add_assoc place done x) at (next.same x less)

      pub go-broken : (r ≡ 0 → ⊥) → (size : ℕ) → done + most ≤ size → SegmentCopied t p l first place size to d f r
      unfolding SegmentCopied
      go-broken off size fits =
          let z = missing-byte t h n (to + done) e f r off r-is in
          rw z.0 (
            refl,
            (done + z.1.0, omega (arith, z.1.1, next.at_most), same_at z.1.0 z.1.1 ∙ z.1.2),
            λ k past. z.2 k (omega (arith, next.at_most)) ∙ go-past k (omega (arith, next.at_most)),
          )
        where
          h : ℕ → Option ℕ
          h x = leaf_in t s.rules.pointers s.on.level s.from.block.0 (s.from.place.0 + x)

      pub go-more : r ≡ 0 → SegmentUpTo t p l first place to d f (done + n)
      unfolding SegmentCopied
      go-more all =
          let z = rw all at r-is in
          let h : ℕ → Option ℕ = λ x. leaf_in t s.rules.pointers s.on.level s.from.block.0 (s.from.place.0 + x) in record {
            bytes = z.0 ∙ ap (λ (y : List ℕ). leaves_written t y (to + done) h n) g.bytes
                ∙ leaves-join t d to done n (λ x. leaf_in t p l first (place + x)) h same_at;
            found = λ x less. each x less (lt-or-ge x done);
          }
        where
          each : (x : ℕ) → x < done + n → (x < done) ⊎ (done ≤ x) → has_leaf (leaf_in t p l first (place + x)) ≡ true
          each x less (inl old) = g.found x old
          each x less (inr new) =
              let y : done + (x - done) ≡ x = omega arith in
              rw (rw y at (same_at (x - done) (omega arith))) ((rw all at r-is).1 (x - done) (omega arith))

-- The whole text is a segment: the blocks of level 0.

leaf-broken : (t : List ℕ) (o : Option Path) → leaf_number o ≡ none → (byte_of t o).number ≡ 14
leaf-broken t none e = refl
leaf-broken t (some q) e = absurd (let z : ◌≡◌ {A = ℕ} 0 1 = cc in omega arith)

leaf-found : (t : List ℕ) (o : Option Path) → has_leaf (leaf_number o) ≡ true → (byte_of t o).number ≡ 0
leaf-found t none e = absurd (let z : ◌≡◌ {A = ℕ} 0 1 = cc in omega arith)
leaf-found t (some q) e = refl

leaf-value : (t : List ℕ) (o : Option Path) → leaf_value t (leaf_number o) ≡ (byte_of t o).value
leaf-value t none = refl
leaf-value t (some q) = refl

leaves-places : (t d : List ℕ) (to p n : ℕ) (f : ℕ → Option ℕ) → ((x : ℕ) → x < n → leaf_value t (f x) ≡ (byte_answer t (p + x)).value)
    → leaves_written t d to f n ≡ places_written d to t p n
leaves-places t d to p zero f each = refl
leaves-places t d to p (suc n) f each = rw (leaves-places t d to p n f (λ x l. each x (omega arith)), each n (omega arith))

pub text-segment : (t : List ℕ) (h : Header) → HeaderOf t h → (p len : ℕ) → p + len ≤ h.text_length
    → SegmentAt t 1 h.record_size 0 h.top_length p len × (0 + len ≤ max_text)
text-segment t h k p len low = (
  record {
    facts = k.facts;
    size_is = k.size_is;
    level_in = omega arith;
    b_is = λ more. k.block_is;
    near = omega (arith, k.length_is, k.facts.bounds.text_high);
    some_leaf = λ past. absurd (let y : ⊥ = omega (arith, k.facts.bounds.levels_low) in y);
  },
  omega (arith, k.length_is, k.facts.bounds.text_high),
)

module _ (t : List ℕ) (h : Header) (k : HeaderOf t h) (p len : ℕ) (low : p + len ≤ h.text_length) (d : List ℕ) (room : len ≤ length d)
    (e : List ℕ) (r : ℕ) (r-is : SegmentCopied t 1 0 0 p len 0 d e r) where
  leaf-text : (q : ℕ) → leaf_in t 1 0 0 q ≡ leaf_number (path_of t q)
  unfolding leaf_in leaf_from path_of
  leaf-text q =
      let s : H t - 0 ≡ suc (H t - 1) = omega (arith, k.facts.bounds.levels_low) in
      let z : 0 + q / b t 0 ≡ q / b t 0 = omega arith in
      rw (s, z)

  text-byte : (x : ℕ) → x < len → byte_answer t (p + x) ≡ byte_of t (path_of t (p + x))
  text-byte x less = byte-path t k.passes (p + x) (omega (arith, k.length_is))

  pub descent-copied : r ≡ 0 → ByPaths t p len d (record { number = 0; value = len; entered = 0 }) e
  unfolding SegmentCopied
  descent-copied all =
      let z = rw all at r-is in
      let good : (x : ℕ) → x < len → (byte_answer t (p + x)).number ≡ 0 =
      λ x l. ap (λ (y : Answer). y.number) (text-byte x l)
      ∙ leaf-found t (path_of t (p + x)) (ap has_leaf (sym (leaf-text (p + x))) ∙ z.1 x l) in
      let same : (x : ℕ) → x < len → leaf_value t (leaf_in t 1 0 0 (p + x)) ≡ (byte_answer t (p + x)).value =
      λ x l. ap (leaf_value t) (leaf-text (p + x)) ∙ leaf-value t (path_of t (p + x)) ∙ sym (ap (λ (y : Answer). y.value) (text-byte x l)) in
      let c = copy-known t p len d room len (omega arith) good e (z.0 ∙ leaves-places t d 0 p len (λ x. leaf_in t 1 0 0 (p + x)) same) in
      copy-end t h p len k low d room len e c refl

  pub descent-broken : (r ≡ 0 → ⊥) → (z : List ℕ) → z ≡ replicate len 0 ++ drop len e → ByPaths t p len d (refused r) z
  unfolding SegmentCopied
  descent-broken off z z-is =
      span-broken t p len d (paths_hold t p len) (tabulate len (values t p)) 0 k.passes (omega (arith, k.length_is)) room z r missing.0
      (sym (go (bool_cases (paths_hold t p len)))) (rw (missing.2 len (omega arith)) at z-is)
    where
      missing : (r ≡ 14) × ((x : ℕ) × (x < len) × (leaf_in t 1 0 0 (p + x) ≡ none)) × ((j : ℕ) → 0 + len ≤ j → drop j e ≡ drop j d)
      missing = missing-byte t (λ x. leaf_in t 1 0 0 (p + x)) len 0 d e r off r-is

      x : ℕ
      x = missing.1.0

      fourteen : (byte_answer t (p + x)).number ≡ 14
      fourteen =
          ap (λ (y : Answer). y.number) (text-byte x missing.1.1)
          ∙ leaf-broken t (path_of t (p + x)) (sym (leaf-text (p + x)) ∙ missing.1.2)

      go : (paths_hold t p len ≡ true) ⊎ (paths_hold t p len ≡ false) → paths_hold t p len ≡ false
      go (inl hold) = absurd (let y : ⊥ = omega (arith, fourteen, hold_at t len p x hold missing.1.1) in y)
      go (inr no-path) = no-path
