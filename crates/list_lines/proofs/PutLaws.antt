-- The digits that `io::decimal` gives are those of `decimal`.
use mathlib.Core.List.{List, [], ◌∷◌}
use mathlib.Core.Path.{◌≡◌, refl, ap, ◌∙◌}
use mathlib.Core.Logic.{◌⊎◌, inl, inr}
use Prim.Native.Nat.{ℕ, zero, suc, ◌+◌, ◌-◌, ◌/◌, ◌%◌, ◌^◌, ◌≤◌, ◌<◌}
use native.Mathlib.Omega.{arith}
use native.Mathlib.Nat.{pow-suc, pow-zero, one-le-pow, pow-le-pow_right, mod-lt, mod-eq_of_lt, div-lt_iff_lt-mul, le-div_iff_mul-le}
use borrow.Author.Tests.{lt-ltb, le-ltb}
use lib.ListN.{length, set, length-append}
use Rattle.text.specs.ListLaws.{lt-or-ge}
use Rattle.io.specs.Digits.{last_digits, hex_digit_ascii, IsDigitCount}
use Rattle.list_lines.specs.ListedLines.{digits_within, decimal, figure, max_figure, ListPut}
use Rattle.list_lines.proofs.WrittenLaws.{then-put, length-put, put_byte}

-- More than ten digits make 10 ^ 10 or more.
pub few-digits : (n k : ℕ) → n < 4294967296 → IsDigitCount 10 1 n k → k ≤ 10
few-digits n k h f = go (lt-or-ge 10 k)
  where
    go : (10 < k) ⊎ (k ≤ 10) → k ≤ 10
    go (inl l) = let high : 10 ^ 10 ≤ 10 ^ (k - 1) = pow-le-pow_right {n = 10} (omega arith) {i = 10} {j = k - 1} (omega arith) in
        absurd (let z : ⊥ = omega (arith, f.2 (omega arith)) in z)
    go (inr g) = g

below_power : (k : ℕ) → k < 10 ^ k
below_power zero = rw (pow-zero 10) (omega arith)
below_power (suc k) = rw (pow-suc 10 k) (omega (arith, below_power k))

last-digit : (n : ℕ) → n < 10 → hex_digit_ascii n ≡ 48 + n
last-digit n h = rw (lt-ltb n 10 h)

one-digit : (more n : ℕ) → n < 10 → (48 + n) ∷ [] ≡ digits_within more n
unfolding digits_within
one-digit zero n h = refl
one-digit (suc more) n h = rw (lt-ltb n 10 h)

list-within : (k more n : ℕ) → n < 10 ^ suc k → (0 < k → 10 ^ k ≤ n) → k ≤ more → last_digits 10 (suc k) n ≡ digits_within more n
unfolding digits_within
list-within zero more n h l m =
    let small : n < 10 = h in
    rw (mod-eq_of_lt small, last-digit n small) (one-digit more n small)
list-within (suc k) zero n h l m = absurd (let z : ⊥ = omega arith in z)
list-within (suc k) (suc more) n h l m =
    let high : 10 ^ suc k ≤ n = l (omega arith) in
    let ten : 10 ≤ n = omega (arith, pow-suc 10 k, one-le-pow k 10 (omega arith)) in
    let low : 10 ^ k ≤ n / 10 = (le-div_iff_mul-le {k = 10} {x = 10 ^ k} {y = n} (omega arith)).1 (rw (pow-suc 10 k) at high) in
    let top : n / 10 < 10 ^ suc k = (div-lt_iff_lt-mul {k = 10} {x = n} {y = 10 ^ suc k} (omega arith)).1 (rw (pow-suc 10 (suc k)) at h) in
    rw (le-ltb n 10 ten, last-digit (n % 10) (mod-lt n (omega arith)), list-within k more (n / 10) top (λ _. low) (omega arith))

pub digits_are : (n k : ℕ) → IsDigitCount 10 1 n k → last_digits 10 k n ≡ decimal n
unfolding decimal
digits_are n zero f = absurd (let z : ⊥ = omega (arith, f.0) in z)
digits_are n (suc k) f = list-within k n n f.1 high (go (lt-or-ge 0 k))
  where
    high : 0 < k → 10 ^ k ≤ n
    high h = let e : suc k - 1 ≡ k = omega arith in rw e at (f.2 (omega arith))

    go : (0 < k) ⊎ (k ≤ 0) → k ≤ n
    go (inl h) = omega (arith, below_power k, high h)
    go (inr h) = omega arith

pub length_digits : (n k : ℕ) → length (last_digits 10 k n) ≡ k
length_digits n zero = refl
length_digits n (suc k) = length-append (last_digits 10 k (n / 10)) (hex_digit_ascii (n % 10) ∷ []) ∙ rw (length_digits (n / 10) k) (omega arith)

-- The digits in a list s, put into a buffer.
module _ (n k : ℕ) (s : List ℕ) (small : n < 4294967296) (f : IsDigitCount 10 1 n k) (e : s ≡ last_digits 10 k n) where
  pub digits-fit : length s ≤ 10
  digits-fit = omega (arith, ap length e, length_digits n k, few-digits n k small f)

  pub number_put : {d o : List ℕ} {at r : ℕ} → ListPut d o at r s (length s) → ListPut d o at r (decimal n) 10
  number_put {d} {o} {at} {r} w =
      let same : s ≡ decimal n = e ∙ digits_are n k f in
      record { bytes = rw same at w.bytes; after = rw same at w.after; short = omega (arith, w.short, digits-fit) }

-- A number with the byte after it.
pub figure-put : {d o : List ℕ} {at r : ℕ} (n after : ℕ)
    → at + max_figure ≤ length d → ListPut d o at r (decimal n) 10 → ListPut d (set o r after) at (r + 1) (figure n after) max_figure
unfolding figure
figure-put {d} {o} {at} {r} n after h w =
    then-put (omega arith) w (put_byte o r after (omega (arith, w.short, length-put (omega arith) w)))
