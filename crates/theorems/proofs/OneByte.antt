-- Request 111, of texts: how far the correction of one byte reaches into counts and places.
use mathlib.Core.List.{List}
use mathlib.Core.Bool.{Bool, true, false, cond}
use mathlib.Core.Path.{◌≡◌, sym, ap, ◌∙◌}
use mathlib.Core.Logic.{◌⊎◌, inl, inr}
use Prim.Native.Nat.{ℕ, ◌+◌, ◌-◌, ◌≤◌, ◌<◌}
use native.Mathlib.Omega.{arith}
use lib.ListN.{length, get_or, take}
use lib.Dec.{eqb}
use Rattle.text.specs.Text.{count_in, place_of, substring}
use Rattle.text.specs.CountLaws.{one, Nth}
use Rattle.text.proofs.CountTheorems.{place-nth, count-start, count_add, count_next, nth-place, nth-high}
use Rattle.text.specs.ListLaws.{lt-or-ge}
use Rattle.text.specs.TextLaws.{substring-ext}

-- The texts have the same length and differ at place d, and nowhere else.
pub record OneByte (T U : List ℕ) (d : ℕ) : Type 0 where
  pub same_length : length T ≡ length U
  pub within : d < length T
  pub differ : get_or T d 0 ≡ get_or U d 0 → ⊥
  pub elsewhere : (p : ℕ) → p < length T → (p ≡ d → ⊥) → get_or T p 0 ≡ get_or U p 0

-- The relation is symmetric.
pub one_byte_back : (T U : List ℕ) (d : ℕ) → OneByte T U d → OneByte U T d
one_byte_back T U d k = record {
  same_length = sym k.same_length;
  within = omega (arith, k.within, k.same_length);
  differ = λ e. k.differ (sym e);
  elsewhere = λ p h other. sym (k.elsewhere p (omega (arith, k.same_length)) other);
}

one-small : (c x : ℕ) → one c x ≤ 1
one-small c x = go (eqb c x)
  where
    go : (y : Bool) → cond y 1 0 ≤ 1
    go true = omega arith
    go false = omega arith

module _ (T U : List ℕ) (d : ℕ) (k : OneByte T U d) (c : ℕ) where
  -- Up to the place the texts are the same.
  same-before : (i : ℕ) → i ≤ d → substring T 0 i ≡ substring U 0 i
  same-before i h =
      substring-ext T U 0 0 i (omega (arith, k.within)) (omega (arith, k.within, k.same_length))
      (λ x l. k.elsewhere (0 + x) (omega (arith, k.within)) (λ e. omega arith))

  -- The bytes after d are equal.
  same-past : (x : ℕ) → d + 1 + x ≤ length T → substring T (d + 1) x ≡ substring U (d + 1) x
  same-past x h =
      substring-ext T U (d + 1) (d + 1) x h (omega (arith, k.same_length))
      (λ y l. k.elsewhere (d + 1 + y) (omega arith) (λ e. omega arith))

  -- The counts in the first i bytes, the places below i, are equal for i up to d.
  pub count-before : (i : ℕ) → i ≤ d → count_in c (take i T) ≡ count_in c (take i U)
  count-before i h = sym (count-start c T i) ∙ ap (count_in c) (same-before i h) ∙ count-start c U i

  -- If the prefix has the place, the removed byte occurs once less in it and the new byte once more.
  pub count_past : (i : ℕ) → d < i → i ≤ length T → count_in c (take i T) + one c (get_or U d 0) ≡ count_in c (take i U) + one c (get_or T d 0)
  count_past i past h =
      let x = i - (d + 1) in
      let e : i ≡ d + 1 + x = omega arith in
      rw e (omega (
        arith,
        parts T x k.within,
        parts U x (omega (arith, k.within, k.same_length)),
        ap (count_in c) (same-past x (omega arith)),
        ap (count_in c) (same-before d (omega arith)),
      ))
    where
      -- The bytes before the place, at it, and after it.
      parts : (X : List ℕ) (x : ℕ) → d < length X
          → count_in c (take (d + 1 + x) X) ≡ count_in c (substring X 0 d) + one c (get_or X d 0) + count_in c (substring X (d + 1) x)
      parts X x l =
          let e : 0 + d ≡ d = omega arith in
          let f : 0 + (d + 1) ≡ d + 1 = omega arith in
          omega (arith, count-start c X (d + 1 + x), rw f at (count_add c X 0 (d + 1) x), rw e at (count_next c X 0 d (omega arith)))

  -- The counts in the first i bytes are at most 1 apart.
  pub count-near : (i : ℕ) → i ≤ length T → (count_in c (take i T) ≤ count_in c (take i U) + 1) × (count_in c (take i U) ≤ count_in c (take i T) + 1)
  count-near i h = go (lt-or-ge d i)
    where
      go : (d < i) ⊎ (i ≤ d) → (count_in c (take i T) ≤ count_in c (take i U) + 1) × (count_in c (take i U) ≤ count_in c (take i T) + 1)
      go (inl past) =
          let e = count_past i past h in
          (omega (arith, one-small c (get_or T d 0)), omega (arith, one-small c (get_or U d 0)))
      go (inr low) =
          let e = count-before i low in
          (omega arith, omega arith)

  nth-same : (j o : ℕ) → o < d → Nth c j T 0 o → Nth c j U 0 o
  nth-same j o low h = record {
    within = omega (arith, h.within, k.same_length);
    byte_is = sym (k.elsewhere (0 + o) (omega (arith, k.within)) (λ e. omega arith)) ∙ h.byte_is;
    rank = omega (arith, h.rank, ap (count_in c) (same-before o (omega arith)));
  }

  -- If the j-th occurrence in T is before d, U has a j-th occurrence, and at the same place.
  pub place_same : (j : ℕ) → 1 ≤ j → j ≤ count_in c T → place_of c j T < d → (j ≤ count_in c U) × (place_of c j U ≡ place_of c j T)
  place_same j low high before =
      let h = nth-same j (place_of c j T) before (place-nth c j T low high) in
      (nth-high c j U (place_of c j T) h, nth-place c j U (place_of c j T) h)
