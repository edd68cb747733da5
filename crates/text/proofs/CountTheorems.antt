-- Laws of counting and of places: `count_in`, `place_of`.
use Rattle.std.specs.Prelude.{List, [], ◌∷◌, ◌++◌, Bool, true, false, cond, ◌≡◌, refl, ◌⊎◌, ℕ, zero, suc, ◌+◌, ◌-◌, ◌≤◌, ◌<◌, length, take, drop, get_or, eqb}
use Rattle.std.proofs.Common.{sym, ap, ◌∙◌, inl, inr, arith, add-one, le_trans, length-take, take_all, drop-cons, eqb-true, eq-eqb, ne_eqb}
use Rattle.text.specs.ListLaws.{lt-or-ge}
use Rattle.text.specs.Text.{substring, count_in, place_in, place_of}
use Rattle.text.specs.TextLaws.{substring-add}
use Rattle.text.specs.CountLaws.{one, Nth}

-- Counts.

pub count-cons : (c x : ℕ) (xs : List ℕ) → count_in c (x ∷ xs) ≡ one c x + count_in c xs
unfolding count_in
count-cons c x xs = go (eqb c x)
  where
    go : (y : Bool) → cond y (count_in c xs + 1) (count_in c xs) ≡ cond y 1 0 + count_in c xs
    go true = omega arith
    go false = omega arith

pub count-nil : (c : ℕ) → count_in c [] ≡ 0
unfolding count_in
count-nil c = refl

pub count-append : (c : ℕ) (xs ys : List ℕ) → count_in c (xs ++ ys) ≡ count_in c xs + count_in c ys
unfolding count_in
count-append c [] ys = omega (arith, count-nil c)
count-append c (x ∷ xs) ys = omega (arith, count-cons c x (xs ++ ys), count-cons c x xs, count-append c xs ys)

one-le : (y : Bool) → cond y 1 0 ≤ 1
one-le true = omega arith
one-le false = omega arith

pub count-le : (c : ℕ) (xs : List ℕ) → count_in c xs ≤ length xs
unfolding count_in
count-le c [] = omega arith
count-le c (x ∷ xs) = omega (arith, count-cons c x xs, one-le (eqb c x), count-le c xs)

-- Counts of substrings.

pub count_none : (c : ℕ) (T : List ℕ) (p : ℕ) → count_in c (substring T p 0) ≡ 0
unfolding substring count_in
count_none c T p = refl

-- A substring in two parts.
pub count_add : (c : ℕ) (T : List ℕ) (p a b : ℕ) → count_in c (substring T p (a + b)) ≡ count_in c (substring T p a) + count_in c (substring T (p + a) b)
count_add c T p a b = ap (count_in c) (substring-add T p a b) ∙ count-append c (substring T p a) (substring T (p + a) b)

pub count-substring-le : (c : ℕ) (T : List ℕ) (p x : ℕ) → count_in c (substring T p x) ≤ x
unfolding substring
count-substring-le c T p x = le_trans (count-le c (take x (drop p T))) (simp length-take (omega arith))

-- From the text's start.
pub count-start : (c : ℕ) (T : List ℕ) (x : ℕ) → count_in c (substring T 0 x) ≡ count_in c (take x T)
unfolding substring
count-start c T x = refl

pub count-whole : (c : ℕ) (T : List ℕ) (x : ℕ) → length T ≤ x → count_in c (substring T 0 x) ≡ count_in c T
unfolding substring
count-whole c T x h = ap (count_in c) (take_all x T h)

substring-one : (T : List ℕ) (p : ℕ) → p < length T → substring T p 1 ≡ get_or T p 0 ∷ []
unfolding substring
substring-one T p h = ap (take 1) (drop-cons T p 0 h)

-- One byte more.
pub count_next : (c : ℕ) (T : List ℕ) (p o : ℕ) → p + o < length T
    → count_in c (substring T p (o + 1)) ≡ count_in c (substring T p o) + one c (get_or T (p + o) 0)
count_next c T p o h =
    omega (arith, count_add c T p o 1, ap (count_in c) (substring-one T (p + o) h), count-cons c (get_or T (p + o) 0) [], count-nil c)

one_same : (c x : ℕ) → x ≡ c → one c x ≡ 1
one_same c x e = rw (eq-eqb c x (sym e))

-- The next byte is c.
pub count-next-same : (c : ℕ) (T : List ℕ) (p o : ℕ) → p + o < length T → get_or T (p + o) 0 ≡ c
    → count_in c (substring T p (o + 1)) ≡ count_in c (substring T p o) + 1
count-next-same c T p o h e = omega (arith, count_next c T p o h, one_same c (get_or T (p + o) 0) e)

one-other : (c x : ℕ) → (x ≡ c → ⊥) → one c x ≡ 0
one-other c x e = rw (ne_eqb c x (λ f. e (sym f)))

-- The next byte is another one.
pub count-next-other : (c : ℕ) (T : List ℕ) (p o : ℕ) → p + o < length T → (get_or T (p + o) 0 ≡ c → ⊥)
    → count_in c (substring T p (o + 1)) ≡ count_in c (substring T p o)
count-next-other c T p o h e = omega (arith, count_next c T p o h, one-other c (get_or T (p + o) 0) e)

-- A longer substring has as many or more.
pub count-mono : (c : ℕ) (T : List ℕ) (p a b : ℕ) → a ≤ b → count_in c (substring T p a) ≤ count_in c (substring T p b)
count-mono c T p a b h =
    let e : b ≡ a + (b - a) = omega arith in
    rw e (omega (arith, count_add c T p a (b - a)))

-- Places.

-- counted from an earlier place
pub nth-earlier : (c j : ℕ) (T : List ℕ) (s a o : ℕ) → Nth c j T (s + a) o → Nth c (count_in c (substring T s a) + j) T s (a + o)
nth-earlier c j T s a o h =
    let e : s + a + o ≡ s + (a + o) = omega arith in record {
      within = omega (arith, h.within);
      byte_is = rw e at h.byte_is;
      rank = omega (arith, h.rank, count_add c T s a o);
    }

-- The same from a later place that is not past it.
pub nth-later : (c j : ℕ) (T : List ℕ) (s a o : ℕ) → Nth c (count_in c (substring T s a) + j) T s (a + o) → Nth c j T (s + a) o
nth-later c j T s a o h =
    let e : s + (a + o) ≡ s + a + o = omega arith in record {
      within = omega (arith, h.within);
      byte_is = rw e at h.byte_is;
      rank = omega (arith, h.rank, count_add c T s a o);
    }

-- The j-th occurrence is at or after place a exactly if fewer than j occurrences are before a.
pub nth_past : (c j : ℕ) (T : List ℕ) (s a o : ℕ) → Nth c j T s o → count_in c (substring T s a) < j → a ≤ o
nth_past c j T s a o h l = go (lt-or-ge o a)
  where
    go : (o < a) ⊎ (a ≤ o) → a ≤ o
    go (inl k) =
        absurd (let z : ⊥ = omega (arith, h.rank, count-next-same c T s o h.within h.byte_is, count-mono c T s (o + 1) a (omega arith)) in z)
    go (inr k) = k

pub nth-before : (c j : ℕ) (T : List ℕ) (s a o : ℕ) → Nth c j T s o → j ≤ count_in c (substring T s a) → o < a
nth-before c j T s a o h l = go (lt-or-ge o a)
  where
    go : (o < a) ⊎ (a ≤ o) → o < a
    go (inl k) = k
    go (inr k) = absurd (let z : ⊥ = omega (arith, h.rank, count-mono c T s a o k) in z)

-- There is one such place.
pub nth-unique : (c j : ℕ) (T : List ℕ) (s o p : ℕ) → Nth c j T s o → Nth c j T s p → o ≡ p
nth-unique c j T s o p h k =
    let a : o ≤ p = nth_past c j T s o p k (omega (arith, h.rank)) in
    let b : p ≤ o = nth_past c j T s p o h (omega (arith, k.rank)) in
    omega arith

-- The k-th c of a list, from its start.
record NthIn (c k : ℕ) (xs : List ℕ) (p : ℕ) : Type 0 where
  within : p < length xs
  byte_is : get_or xs p 0 ≡ c
  rank : count_in c (take p xs) ≡ k

nth-cons : (c k x : ℕ) (xs : List ℕ) (p j : ℕ) → NthIn c k xs p → one c x + k ≡ j → NthIn c j (x ∷ xs) (p + 1)
nth-cons c k x xs p j h e = rw (add-one p) (record {
  within = omega (arith, h.within);
  byte_is = h.byte_is;
  rank = omega (arith, count-cons c x (take p xs), h.rank);
})

nth-head : (c x : ℕ) (xs : List ℕ) → c ≡ x → NthIn c 0 (x ∷ xs) 0
unfolding count_in
nth-head c x xs e = record { within = omega arith; byte_is = sym e; rank = refl }

-- The list's first byte is c or not.
module _ (c x : ℕ) (xs : List ℕ) where
  place-first : (y : Bool) → eqb c x ≡ y
      → 0 < count_in c (x ∷ xs) → (0 < count_in c xs → NthIn c 0 xs (place_in c 0 xs)) → NthIn c 0 (x ∷ xs) (cond y 0 (place_in c 0 xs + 1))
  place-first true e h rest = nth-head c x xs (eqb-true c x e)
  place-first false e h rest =
      let z : one c x ≡ 0 = rw e in
      nth-cons c 0 x xs (place_in c 0 xs) 0 (rest (omega (arith, count-cons c x xs))) (omega arith)

  place-further : (k : ℕ) (y : Bool) → eqb c x ≡ y → suc k < count_in c (x ∷ xs) → ((m : ℕ) → m < count_in c xs → NthIn c m xs (place_in c m xs))
      → NthIn c (suc k) (x ∷ xs) (cond y (place_in c k xs + 1) (place_in c (suc k) xs + 1))
  place-further k true e h rest =
      let z : one c x ≡ 1 = rw e in
      nth-cons c k x xs (place_in c k xs) (suc k) (rest k (omega (arith, count-cons c x xs))) (omega arith)
  place-further k false e h rest =
      let z : one c x ≡ 0 = rw e in
      nth-cons c (suc k) x xs (place_in c (suc k) xs) (suc k) (rest (suc k) (omega (arith, count-cons c x xs))) (omega arith)

place-in : (c k : ℕ) (xs : List ℕ) → k < count_in c xs → NthIn c k xs (place_in c k xs)
unfolding place_in
place-in c k [] h = absurd (let z : ⊥ = omega (arith, count-nil c) in z)
place-in c zero (x ∷ xs) h = place-first c x xs (eqb c x) refl h (place-in c 0 xs)
place-in c (suc k) (x ∷ xs) h = place-further c x xs k (eqb c x) refl h (λ m. place-in c m xs)

-- The place of the j-th c is such a place.
pub place-nth : (c j : ℕ) (T : List ℕ) → 1 ≤ j → j ≤ count_in c T → Nth c j T 0 (place_of c j T)
unfolding place_of
place-nth c j T low high =
    let h = place-in c (j - 1) T (omega arith) in
    let p = place_in c (j - 1) T in
    let e : p ≡ 0 + p = omega arith in record {
      within = omega (arith, h.within);
      byte_is = rw e at h.byte_is;
      rank = omega (arith, count-start c T p, h.rank);
    }

pub nth-high : (c j : ℕ) (T : List ℕ) (o : ℕ) → Nth c j T 0 o → j ≤ count_in c T
nth-high c j T o h =
    omega (
      arith,
      h.rank,
      count-next-same c T 0 o h.within h.byte_is,
      count-mono c T 0 (o + 1) (o + 1 + length T) (omega arith),
      count-whole c T (o + 1 + length T) (omega arith),
    )

-- The place of the j-th c is the only one.
pub nth-place : (c j : ℕ) (T : List ℕ) (o : ℕ) → Nth c j T 0 o → place_of c j T ≡ o
nth-place c j T o h =
    nth-unique c j T 0 (place_of c j T) o (place-nth c j T (omega (arith, h.rank)) (nth-high c j T o h)) h
