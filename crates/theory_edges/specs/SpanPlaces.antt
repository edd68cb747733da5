-- Where a short span's walk finds its bytes: inside the tree, on any layout 2 tree that passes questions 5 to 7.
use Rattle.std.specs.Prelude.{List, [], ◌∷◌, Bool, true, cond, ◌&&◌, ◌≡◌, refl, ◌⊎◌, length, ltb}
use Rattle.std.proofs.Math.Option.{Option, none, some}
use Rattle.std.proofs.Math.Bool.{false}
use Rattle.std.proofs.Common.{inl, inr, arith, mod-lt}
use Prim.Native.Nat.{ℕ, zero, suc, ◌+◌, ◌-◌, ◌/◌, ◌%◌, ◌≤◌, ◌<◌}
use borrow.Author.Tests.{ltb-true, leb-true, leb-false}
use Rattle.std.proofs.Math.Dec.{leb}
use Rattle.text.specs.ListLaws.{lt-or-ge, bool_cases, and_right}
use Rattle.format.specs.Layout as at
use Rattle.format.specs.LayoutLaws.{Readable, full-pos, edges-inside, leaf-start-inside}
use Rattle.format.specs.TreeReading.{Visit, visit, is_kept_block, pointing_block, target_place, resolves, resolved_block, resolved_place, resolved_visits, provided}
use Rattle.format.specs.TreeReading.{Short, led, by_edges, in_one_leaf, short_from, short_of}
use Rattle.format.specs.ReadAnswerLaws.{ShortSpan}
use Rattle.theory_paths.specs.Links.{H, N, b}
use Rattle.theory_paths.specs.PlacesResolved.{target_first, target-second}

-- The len bytes are in the tree in two parts.
pub record Inside (t : List ℕ) (len : ℕ) (q : Short) : Type 0 where
  pub few : q.size ≤ len
  pub first_in : q.from + q.size ≤ length t
  pub next-in : q.next + (len - q.size) ≤ length t

module _ (t : List ℕ) (k : Readable t) (two : at.layout t ≡ 2) (x : ℕ) (low : 0 < x) (short : x ≤ (at.settings t).leaf) where
  -- Whatever is found is inside.
  abbrev pub Found : Option Short → Type 0
  Found r = (q : Short) → r ≡ some q → Inside t x q

  some_in : (p : Short) → Inside t x p → Found (some p)
  some_in p h q e =
      let a : q.from ≡ p.from = cc in
      let c : q.size ≡ p.size = cc in
      let d : q.next ≡ p.next = cc in
      record { few = rw c h.few; first_in = rw (a, c) h.first_in; next-in = rw (d, c) h.next-in }

  allowed-in : (c : Bool) (r : Option Short) → (c ≡ true → Found r) → Found (provided c r)
  allowed-in true r h = h refl
  allowed-in false r h = λ q e. absurd (let z : ◌≡◌ {A = ℕ} 0 1 = cc in omega arith)

  led-in : (vs : List Visit) (r : Option Short) → Found r → Found (led vs r)
  led-in vs none h = λ q e. absurd (let z : ◌≡◌ {A = ℕ} 0 1 = cc in omega arith)
  led-in vs (some p) h = λ q e.
      let a : q.from ≡ p.from = cc in
      let c : q.size ≡ p.size = cc in
      let d : q.next ≡ p.next = cc in
      let i = h p refl in
      record { few = rw c i.few; first_in = rw (a, c) i.first_in; next-in = rw (d, c) i.next-in }

  cond-in : (c : Bool) (r u : Option Short) → (c ≡ true → Found r) → (c ≡ false → Found u) → Found (cond c r u)
  cond-in true r u h g = h refl
  cond-in false r u h g = g refl

  edges-in : (l i o : ℕ) → l < H t → o < b t l → b t l < o + x → Found (by_edges t l i o)
  unfolding by_edges
  edges-in l i o hl ho past = allowed-in (ltb (i + 1) (N t l)) _ (λ y.
      let next : i + 1 < N t l = ltb-true _ _ y in
      some_in _ (record {
        few = omega arith;
        first_in = omega (arith, edges-inside t k l i two hl (omega arith), leaf-start-inside t k, short);
        next-in = omega (arith, edges-inside t k l (i + 1) two hl next, leaf-start-inside t k, short);
      }))

  leaf-in : (l i o : ℕ) → Found (in_one_leaf t l i o x)
  unfolding in_one_leaf
  leaf-in l i o =
      let fits = leb (at.link t l i + o + x) (at.leaf_count t) in
      let q : Short = record { visits = visit l i o ∷ []; from = at.leaf_offset t + (at.link t l i + o); size = x; next = 0 } in
      allowed-in (is_kept_block t l i && fits) (some q) (λ y. some_in q (record {
        few = omega arith;
        first_in = omega (arith, leb-true (at.link t l i + o + x) (at.leaf_count t) (and_right (is_kept_block t l i) fits y), k.size);
        next-in = omega arith;
      }))

  -- A place in the target of a pointing block is below its length.
  resolved-low : (l i o : ℕ) → o < b t l → pointing_block t l i ≡ true → resolved_place t l i o < b t l
  unfolding resolved_place pointing_block
  resolved-low l i o ho pt = go (bool_cases (is_kept_block t l i)) (lt-or-ge (at.gap t l i + o) (b t l))
    where
      gap_low : at.gap t l i < b t l
      gap_low = ltb-true _ _ (and_right (ltb i (N t l) && at.is_pointing t l i) (ltb (at.gap t l i) (b t l)) pt)

      go : (is_kept_block t l i ≡ true)
          ⊎ (is_kept_block t l i ≡ false) → (at.gap t l i + o < b t l) ⊎ (b t l ≤ at.gap t l i + o) → cond (is_kept_block t l i) o (target_place t l i o) < b t l
      go (inl kept) z = rw kept ho
      go (inr un) (inl z) = rw un (omega (arith, (target_first t l i o z).1))
      go (inr un) (inr z) = rw un (omega (arith, (target-second t l i o z).1, gap_low))

  pub short-in : (below l i o : ℕ) → l + below + 1 ≡ H t → o < b t l → Found (short_from t below l i o x)
  unfolding short_from
  short-in zero l i o lev ho =
      cond-in (leb (o + x) (b t l)) _ _ (λ y. leaf-in l i o) (λ y. edges-in l i o (omega arith) ho (leb-false (o + x) (b t l) y))
  short-in (suc below) l i o lev ho =
      let j = resolved_block t l i o in
      let p = resolved_place t l i o in
      let c = b t (l + 1) in
      let down = short_from t below (l + 1) (at.link t l j + p / c) (p % c) x in
      let inside : Found (provided (resolves t l i o) (led (resolved_visits t l i o) down)) =
      allowed-in (resolves t l i o) _ (λ y. led-in
      (resolved_visits t l i o) down (short-in below (l + 1) (at.link t l j + p / c) (p % c) (omega arith) (mod-lt p (full-pos t k (l + 1))))) in
      let between : leb (p + x) (b t l) ≡ false → Found (provided (pointing_block t l i) (led (visit l i o ∷ []) (by_edges t l j p))) =
      λ z. allowed-in (pointing_block t l i)
      _ (λ y. led-in (visit l i o ∷ []) (by_edges t l j p) (edges-in l j p (omega arith) (resolved-low l i o ho y) (leb-false (p + x) (b t l) z))) in
      cond-in (leb (o + x) (b t l)) _ _ (λ y. cond-in (leb (p + x) (b t l)) _ _ (λ z. inside) between)
      (λ y. edges-in l i o (omega arith) ho (leb-false (o + x) (b t l) y))

-- The bytes of a short span from place p of the text.
pub short-inside : (t : List ℕ) → Readable t → (p len : ℕ) → ShortSpan t len → (q : Short) → short_of t p len ≡ some q → Inside t len q
unfolding short_of
short-inside t k p len s q e =
    short-in t k s.two len s.low s.high (H t - 1) 0 (p / b t 0) (p % b t 0) (omega (arith, k.bounds.levels_low)) (mod-lt p (full-pos t k 0)) q e
