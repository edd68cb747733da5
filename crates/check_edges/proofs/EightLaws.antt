-- Bytes compared in parts: eight bytes are equal exactly where their numbers are, and parts that cover all bytes decide.
use mathlib.Core.List.{List}
use mathlib.Core.Bool.{true, false}
use mathlib.Core.Logic.{◌⊎◌, inl, inr}
use mathlib.Core.Path.{◌≡◌, refl, sym, ◌∙◌}
use Prim.Native.Nat.{ℕ, zero, suc, ◌+◌, ◌-◌, ◌*◌, ◌≤◌, ◌<◌}
use native.Mathlib.Omega.{arith}
use borrow.Author.Tests.{eqb-true, eqb-false}
use lib.Dec.{eqb}
use lib.ListN.{length, get_or}
use Rattle.text.specs.Text.{same_list, substring}
use Rattle.text.specs.ListLaws.{bool_cases, bool_clash, lt-or-ge, same_list-true, eq-same_list, ne-same_list}
use Rattle.text.specs.TextLaws.{substring-ext, substring-at, substring-part}
use Rattle.check_edges.specs.Eights.{eight_at}

-- The lowest digit, and the others.
low_digit : (a b rest more : ℕ) → a < 256 → b < 256 → a + 256 * rest ≡ b + 256 * more → (a ≡ b) × (rest ≡ more)
low_digit a b rest more ha hb e = (omega arith, omega arith)

-- eight digits
each-of-eight : (f g : ℕ → ℕ) → f 0 ≡ g 0 → f 1 ≡ g 1 → f 2 ≡ g 2 → f 3 ≡ g 3 → f 4 ≡ g 4 → f 5 ≡ g 5 → f 6 ≡ g 6 → f 7 ≡ g 7 → (x : ℕ) → x < 8 → f x ≡ g x
each-of-eight f g a b c d e h i j zero l = a
each-of-eight f g a b c d e h i j (suc zero) l = b
each-of-eight f g a b c d e h i j (suc (suc zero)) l = c
each-of-eight f g a b c d e h i j (suc (suc (suc zero))) l = d
each-of-eight f g a b c d e h i j (suc (suc (suc (suc zero)))) l = e
each-of-eight f g a b c d e h i j (suc (suc (suc (suc (suc zero))))) l = h
each-of-eight f g a b c d e h i j (suc (suc (suc (suc (suc (suc zero)))))) l = i
each-of-eight f g a b c d e h i j (suc (suc (suc (suc (suc (suc (suc zero))))))) l = j
each-of-eight f g a b c d e h i j (suc (suc (suc (suc (suc (suc (suc (suc x)))))))) l = absurd (let z : ⊥ = omega arith in z)

eight-digits : (f g : ℕ → ℕ) → ((k : ℕ) → f k < 256) → ((k : ℕ) → g k < 256)
    → f 0 + 256 * (f 1 + 256 * (f 2 + 256 * (f 3 + 256 * (f 4 + 256 * (f 5 + 256 * (f 6 + 256 * f 7))))))
    ≡ g 0 + 256 * (g 1 + 256 * (g 2 + 256 * (g 3 + 256 * (g 4 + 256 * (g 5 + 256 * (g 6 + 256 * g 7))))))
    → (x : ℕ) → x < 8 → f x ≡ g x
eight-digits f g low below e =
    let d0 = low_digit (f 0) (g 0) _ _ (low 0) (below 0) e in
    let d1 = low_digit (f 1) (g 1) _ _ (low 1) (below 1) d0.1 in
    let d2 = low_digit (f 2) (g 2) _ _ (low 2) (below 2) d1.1 in
    let d3 = low_digit (f 3) (g 3) _ _ (low 3) (below 3) d2.1 in
    let d4 = low_digit (f 4) (g 4) _ _ (low 4) (below 4) d3.1 in
    let d5 = low_digit (f 5) (g 5) _ _ (low 5) (below 5) d4.1 in
    let d6 = low_digit (f 6) (g 6) _ _ (low 6) (below 6) d5.1 in
    each-of-eight f g d0.0 d1.0 d2.0 d3.0 d4.0 d5.0 d6.0 d6.1

module _ (t : List ℕ) (p q : ℕ) where
  -- The number by the place of each byte.
  first-place : (p : ℕ) → get_or t (p + 0) 0 ≡ get_or t p 0
  first-place p = let z : p + 0 ≡ p = omega arith in rw z

  eight-bytes : ((k : ℕ) → get_or t k 0 < 256) → eight_at t p ≡ eight_at t q → (x : ℕ) → x < 8 → get_or t (p + x) 0 ≡ get_or t (q + x) 0
  eight-bytes below e =
      eight-digits (λ x. get_or t (p + x) 0) (λ x. get_or t (q + x) 0) (λ x. below (p + x)) (λ x. below (q + x)) (omega (arith, e, first-place p, first-place q))

  eight-numbers : ((x : ℕ) → x < 8 → get_or t (p + x) 0 ≡ get_or t (q + x) 0) → eight_at t p ≡ eight_at t q
  eight-numbers f = omega (
    arith,
    sym (first-place p) ∙ f 0 (omega arith) ∙ first-place q,
    f 1 (omega arith),
    f 2 (omega arith),
    f 3 (omega arith),
    f 4 (omega arith),
    f 5 (omega arith),
    f 6 (omega arith),
    f 7 (omega arith),
  )

  -- Eight bytes are equal exactly where their numbers x and y are.
  pub eight-same : (x y : ℕ) → x ≡ eight_at t p → y ≡ eight_at t q → p + 8 ≤ length t → q + 8 ≤ length t → ((k : ℕ) → get_or t k 0 < 256)
      → eqb x y ≡ same_list (substring t p 8) (substring t q 8)
  eight-same x y ex ey hp hq below = go (bool_cases (eqb x y))
    where
      go : (eqb x y ≡ true) ⊎ (eqb x y ≡ false) → eqb x y ≡ same_list (substring t p 8) (substring t q 8)
      go (inl e) = e ∙ sym (eq-same_list _ _ (substring-ext t t p q 8 hp hq (eight-bytes below (sym ex ∙ eqb-true x y e ∙ ey))))
      go (inr e) = e ∙ sym (ne-same_list _ _ (λ same. eqb-false x y e (ex ∙ eight-numbers (substring-at t t p q 8 same) ∙ sym ey)))

-- The k bytes at a and at b are a part, from o on, of the n bytes at p and at q.
module _ (t : List ℕ) (p q n o k a b : ℕ) (ea : a ≡ p + o) (eb : b ≡ q + o) (hp : p + n ≤ length t) (hq : q + n ≤ length t) where
  -- A part that differs decides.
  pub part-differs : o + k ≤ n → same_list (substring t a k) (substring t b k) ≡ false → false ≡ same_list (substring t p n) (substring t q n)
  part-differs within differs =
      sym (ne-same_list _ _ (λ e. bool_clash _ (eq-same_list _ _ (rw (ea, eb) (substring-part t t p q n o k hp hq within e))) differs))

  -- The last part decides where the bytes before it are equal.
  pub rest-decides : (i : ℕ) → o ≤ i → o + k ≡ n → same_list (substring t p i) (substring t q i) ≡ true
      → same_list (substring t a k) (substring t b k) ≡ same_list (substring t p n) (substring t q n)
  rest-decides i covered whole first = go (bool_cases (same_list (substring t a k) (substring t b k)))
    where
      byte : substring t (p + o) k ≡ substring t (q + o) k → (x : ℕ) → x < n → (x < i) ⊎ (i ≤ x) → get_or t (p + x) 0 ≡ get_or t (q + x) 0
      byte e x l (inl m) = substring-at t t p q i (same_list-true _ _ first) x m
      byte e x l (inr m) =
          let y : p + x ≡ p + o + (x - o) = omega arith in
          let z : q + x ≡ q + o + (x - o) = omega arith in
          rw (y, z) (substring-at t t (p + o) (q + o) k e (x - o) (omega arith))

      go : (same_list (substring t a k) (substring t b k) ≡ true) ⊎ (same_list (substring t a k) (substring t b k) ≡ false)
          → same_list (substring t a k) (substring t b k) ≡ same_list (substring t p n) (substring t q n)
      go (inl e) = e ∙ sym (eq-same_list _ _ (substring-ext t t p q n hp hq (λ x l. byte (rw (ea, eb) at (same_list-true _ _ e)) x l (lt-or-ge x i))))
      go (inr e) = e ∙ part-differs (omega arith) e

-- The k bytes after the first i.
pub more_same : (t : List ℕ) (p q i k : ℕ) → p + (i + k) ≤ length t → q + (i + k) ≤ length t → same_list (substring t p i) (substring t q i) ≡ true
    → same_list (substring t (p + i) k) (substring t (q + i) k) ≡ true → same_list (substring t p (i + k)) (substring t q (i + k)) ≡ true
more_same t p q i k hp hq first next = sym (rest-decides t p q (i + k) i k (p + i) (q + i) refl refl hp hq i (omega arith) refl first) ∙ next

-- Of no bytes all are equal.
pub none_differ : (t : List ℕ) (p q : ℕ) → same_list (substring t p 0) (substring t q 0) ≡ true
unfolding same_list substring
none_differ t p q = refl
