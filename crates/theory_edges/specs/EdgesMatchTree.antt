-- The edges of a layout 2 tree are right for a text that fits it, as plain facts on bytes.
use Rattle.std.specs.Prelude.{List, true, not, ◌≡◌, ◌⊎◌, length, get_or}
use Rattle.std.proofs.Math.Bool.{Bool}
use Rattle.std.proofs.Common.{sym, ap, ◌∙◌, inl, inr, arith, ext_get_or}
use Prim.Native.Nat.{ℕ, ◌+◌, ◌-◌, ◌≤◌, ◌<◌}
use Rattle.text.specs.Text.{all_below, substring}
use Rattle.text.specs.ListLaws.{lt-or-ge, or_right, all_below-at, all_below-make, same_list-true, eq-same_list}
use Rattle.text.specs.TextLaws.{length-substring, get_or-substring}
use Rattle.format.specs.Layout.{edges_of}
use Rattle.format.specs.EdgeLaws.{length-edges}
use Rattle.format.proofs.EdgeTheorems.{first-own, first-none, last-own, last_none}
use Rattle.format.specs.Layout as at
use Rattle.format.specs.TreeReading.{block_edges_true, edges_true}
use Rattle.theory_paths.specs.Links.{H, N, s, len}

module _ (T t : List ℕ) where
  abbrev m : ℕ
  m = (at.settings t).leaf

  -- The edges of block i of level l: its own bytes in the text, then zeros.
  pub record Edged (l i : ℕ) : Type 0 where
    pub first : (y : ℕ) → y < m → y < len t l i → get_or t (at.edges_at t l i + y) 0 ≡ get_or T (s t l i + y) 0
    pub first_zero : (y : ℕ) → y < m → len t l i ≤ y → get_or t (at.edges_at t l i + y) 0 ≡ 0
    pub last : (y : ℕ) → y < m → y < len t l i → get_or t (at.edges_at t l i + (m + y)) 0 ≡ get_or T (s t l i + (len t l i - m) + y) 0
    pub last_zero : (y : ℕ) → y < m → len t l i ≤ y → get_or t (at.edges_at t l i + (m + y)) 0 ≡ 0

  -- The test of one block, and the facts that it decides.

  same : (l i : ℕ) → block_edges_true T t l i ≡ true → substring t (at.edges_at t l i) (m + m) ≡ edges_of m (substring T (s t l i) (len t l i))
  unfolding block_edges_true
  same l i h = same_list-true _ _ h

  at_edge : (l i y : ℕ) → block_edges_true T t l i ≡ true → y < m + m
      → get_or t (at.edges_at t l i + y) 0 ≡ get_or (edges_of m (substring T (s t l i) (len t l i))) y 0
  at_edge l i y h hy = sym (get_or-substring t (at.edges_at t l i) (m + m) y hy) ∙ ap (λ (x : List ℕ). get_or x y 0) (same l i h)

  pub edged-facts : (l i : ℕ) → s t l i + len t l i ≤ length T → block_edges_true T t l i ≡ true → Edged l i
  edged-facts l i fits h = record {
    first = λ y hm hx. at_edge l i y h (omega arith) ∙ first-own T m (s t l i) (len t l i) fits y hm hx;
    first_zero = λ y hm hx. at_edge l i y h (omega arith) ∙ first-none T m (s t l i) (len t l i) fits y hm hx;
    last = λ y hm hx. at_edge l i (m + y) h (omega arith) ∙ last-own T m (s t l i) (len t l i) fits y hm hx;
    last_zero = λ y hm hx. at_edge l i (m + y) h (omega arith) ∙ last_none T m (s t l i) (len t l i) fits y hm hx;
  }

  module _ (l i : ℕ) (fits : s t l i + len t l i ≤ length T) (inside : at.edges_at t l i + (m + m) ≤ length t) (e : Edged l i) where
    abbrev L : ℕ
    L = len t l i

    front : (y : ℕ) → y < m → (y < L) ⊎ (L ≤ y) → get_or t (at.edges_at t l i + y) 0 ≡ get_or (edges_of m (substring T (s t l i) L)) y 0
    front y low (inl z) = e.first y low z ∙ sym (first-own T m (s t l i) L fits y low z)
    front y low (inr z) = e.first_zero y low z ∙ sym (first-none T m (s t l i) L fits y low z)

    back : (y : ℕ) → y < m → (y < L) ⊎ (L ≤ y) → get_or t (at.edges_at t l i + (m + y)) 0 ≡ get_or (edges_of m (substring T (s t l i) L)) (m + y) 0
    back y low (inl z) = e.last y low z ∙ sym (last-own T m (s t l i) L fits y low z)
    back y low (inr z) = e.last_zero y low z ∙ sym (last_none T m (s t l i) L fits y low z)

    byte-same : (y : ℕ) → y < m + m → get_or t (at.edges_at t l i + y) 0 ≡ get_or (edges_of m (substring T (s t l i) L)) y 0
    byte-same y hy = go (lt-or-ge y m)
      where
        go : (y < m) ⊎ (m ≤ y) → get_or t (at.edges_at t l i + y) 0 ≡ get_or (edges_of m (substring T (s t l i) L)) y 0
        go (inl z) = front y z (lt-or-ge y L)
        go (inr z) = let q : y ≡ m + (y - m) = omega arith in rw q (back (y - m) (omega arith) (lt-or-ge (y - m) L))

    edges-same : substring t (at.edges_at t l i) (m + m) ≡ edges_of m (substring T (s t l i) (len t l i))
    edges-same =
        ext_get_or 0 (substring t (at.edges_at t l i) (m + m)) (edges_of m (substring T (s t l i) (len t l i)))
        (length-substring t (at.edges_at t l i) (m + m) inside ∙ sym (length-edges m (substring T (s t l i) (len t l i))))
        (λ y hy. (let low : y < m + m = rw (length-substring t (at.edges_at t l i) (m + m) inside) at hy in
        get_or-substring t (at.edges_at t l i) (m + m) y low ∙ byte-same y low))

    pub edged-make : block_edges_true T t l i ≡ true
    unfolding block_edges_true
    edged-make = eq-same_list _ _ edges-same

  -- The edges are true exactly where each block's are.

  pub edges-at : at.layout t ≡ 2 → edges_true T t ≡ true → (l i : ℕ) → l < H t → i < N t l → block_edges_true T t l i ≡ true
  unfolding edges_true at.has_edges
  edges-at two h l i hl hi =
      let level : ℕ → Bool = λ x. all_below (N t x) (block_edges_true T t x) in
      all_below-at (N t l) (block_edges_true T t l) (all_below-at (H t) level (rw two at h) l hl) i hi

  pub edges-all : ((l i : ℕ) → l < H t → i < N t l → block_edges_true T t l i ≡ true) → edges_true T t ≡ true
  unfolding edges_true
  edges-all h =
      let level : ℕ → Bool = λ x. all_below (N t x) (block_edges_true T t x) in
      or_right (not (at.has_edges t)) (all_below-make (H t) level (λ l hl. all_below-make (N t l) (block_edges_true T t l) (λ i hi. h l i hl hi)))
