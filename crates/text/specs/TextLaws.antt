-- Laws of the definitions of `Text`: substrings, and leftmost occurrences.
use Rattle.std.specs.Prelude.{List, ◌++◌, Bool, true, false, cond, ◌≡◌, refl, ◌⊎◌, ℕ, zero, suc, ◌+◌, ◌≤◌, ◌<◌, length, take, drop, get_or}
use Rattle.std.proofs.Common.{sym, ap, ◌∙◌, inl, inr, arith, add_assoc, length-drop, get_or-take, get_or-drop, ext_get_or, length-take-le, take-add, drop-drop}
use Rattle.text.specs.Text.{same_list, substring, first_from, leftmost}
use Rattle.text.specs.ListLaws.{bool_clash, lt-or-ge, same_list-true, eq-same_list}

-- Substrings.

pub length-substring : (T : List ℕ) (p len : ℕ) → p + len ≤ length T → length (substring T p len) ≡ len
unfolding substring
length-substring T p len h = length-take-le len (drop p T) (simp length-drop (omega arith))

pub get_or-substring : (T : List ℕ) (p len i : ℕ) → i < len → get_or (substring T p len) i 0 ≡ get_or T (p + i) 0
unfolding substring
get_or-substring T p len i h = get_or-take len (drop p T) i 0 h ∙ get_or-drop p T i 0

-- Two substrings are equal exactly where their bytes are.
pub substring-ext :
    (T U : List ℕ) (p q len : ℕ) → p + len ≤ length T → q + len ≤ length U
    → ((i : ℕ) → i < len → get_or T (p + i) 0 ≡ get_or U (q + i) 0) → substring T p len ≡ substring U q len
substring-ext T U p q len h k same =
    ext_get_or
    0 (substring T p len) (substring U q len) (length-substring T p len h ∙ sym (length-substring U q len k))
    (λ i l.
    let m : i < len = rw (length-substring T p len h) at l in
    get_or-substring T p len i m ∙ same i m ∙ sym (get_or-substring U q len i m))

pub substring-at :
    (T U : List ℕ) (p q len : ℕ) → substring T p len ≡ substring U q len → (i : ℕ) → i < len → get_or T (p + i) 0 ≡ get_or U (q + i) 0
substring-at T U p q len e i l =
    sym (get_or-substring T p len i l) ∙ ap (λ (s : List ℕ). get_or s i 0) e ∙ get_or-substring U q len i l

-- A part of equal substrings.
pub substring-part :
    (T U : List ℕ) (p q len o k : ℕ) → p + len ≤ length T → q + len ≤ length U → o + k ≤ len → substring T p len ≡ substring U q len
    → substring T (p + o) k ≡ substring U (q + o) k
substring-part T U p q len o k h j within e =
    substring-ext
    T U (p + o) (q + o) k (omega arith) (omega arith)
    (λ i l. rw (add_assoc p o i, add_assoc q o i) (substring-at T U p q len e (o + i) (omega arith)))

-- A substring in two parts.
pub substring-add : (T : List ℕ) (p a b : ℕ) → substring T p (a + b) ≡ substring T p a ++ substring T (p + a) b
unfolding substring
substring-add T p a b = take-add a b (drop p T) ∙ ap (λ (s : List ℕ). take a (drop p T) ++ take b s) (drop-drop a p T)

-- Leftmost occurrences.

-- r is the first of the places p, p + 1, .., p + more at which f holds, p + more counting as one
record First (f : ℕ → Bool) (more p r : ℕ) : Type 0 where
  low : p ≤ r
  high : r ≤ p + more
  holds : r < p + more → f r ≡ true
  before : (k : ℕ) → p ≤ k → k < r → f k ≡ false

first_step :
    (f : ℕ → Bool) (more p r : ℕ) (t : Bool) → f p ≡ t → First f more (p + 1) r → First f (suc more) p (cond t p r)
first_step f more p r true e h =
    record { low = omega arith; high = omega arith; holds = λ _. e; before = λ k a b. absurd (let z : ⊥ = omega arith in z) }
first_step f more p r false e h =
    record {
      low = omega (arith, h.low);
      high = omega (arith, h.high);
      holds = λ l. h.holds (omega arith);
      before = λ k a b. go k b (lt-or-ge p k) a;
    }
  where
    go : (k : ℕ) → k < r → (p < k) ⊎ (k ≤ p) → p ≤ k → f k ≡ false
    go k b (inl l) a = h.before k (omega arith) b
    go k b (inr g) a =
        let s : k ≡ p = omega arith in
        ap f s ∙ e

first-from : (T : List ℕ) (s len more p : ℕ) → First (λ q. same_list (substring T q len) (substring T s len)) more p (first_from T s len more p)
unfolding first_from
first-from T s len zero p =
    record {
      low = omega arith;
      high = omega arith;
      holds = λ l. absurd (let z : ⊥ = omega arith in z);
      before = λ k a b. absurd (let z : ⊥ = omega arith in z);
    }
first-from T s len (suc more) p =
    first_step
    (λ q. same_list (substring T q len) (substring T s len)) more p (first_from T s len more (p + 1))
    (same_list (substring T p len) (substring T s len)) refl (first-from T s len more (p + 1))

module _ (T : List ℕ) (s len : ℕ) where
  is-first : First (λ q. same_list (substring T q len) (substring T s len)) s 0 (leftmost T s len)
  unfolding leftmost
  is-first = first-from T s len s 0

  -- The leftmost occurrence is the place or an earlier one.
  pub leftmost-le : leftmost T s len ≤ s
  leftmost-le = omega (arith, is-first.high)

  -- The same bytes are there.
  pub leftmost-same : substring T (leftmost T s len) len ≡ substring T s len
  leftmost-same = go (lt-or-ge (leftmost T s len) s)
    where
      go : (leftmost T s len < s) ⊎ (s ≤ leftmost T s len) → substring T (leftmost T s len) len ≡ substring T s len
      go (inl l) = same_list-true _ _ (is-first.holds (omega arith))
      go (inr g) =
          let e : leftmost T s len ≡ s = omega (arith, leftmost-le) in
          ap (λ (q : ℕ). substring T q len) e

  -- The bytes do not occur at an earlier place.
  pub leftmost-least : (q : ℕ) → q < leftmost T s len → substring T q len ≡ substring T s len → ⊥
  leftmost-least q l e = bool_clash _ (eq-same_list _ _ e) (is-first.before q (omega arith) l)

  -- A place with the same bytes is at the leftmost one or after it.
  pub leftmost-first : (q : ℕ) → substring T q len ≡ substring T s len → leftmost T s len ≤ q
  leftmost-first q e = go (lt-or-ge q (leftmost T s len))
    where
      go : (q < leftmost T s len) ⊎ (leftmost T s len ≤ q) → leftmost T s len ≤ q
      go (inl l) = absurd (leftmost-least q l e)
      go (inr g) = g
