-- Heads of chains: their marks and links.
use mathlib.Core.Path.{◌≡◌, sym, ap, ap₂, ◌∙◌}
use Prim.Native.Nat.{ℕ, zero, suc, ◌+◌, ◌*◌, ◌/◌, ◌%◌, ◌^◌, ◌≤◌, ◌<◌, max}
use native.Mathlib.Omega.{arith}
use native.Mathlib.Nat.{mod-lt, mul-lt-mul_of_pos_right, div-lt_iff_lt-mul, mul_comm, pow-suc, div-one, div-div-eq-div-mul}
use native.Mathlib.Nat.{mul-add-div_right, mul-add-mod_self_right, mod-add-div, mod-eq_of_lt, div-eq_of_lt, mul-div_cancel, pow-le-pow_right, add-zero, one-mul}
use lib.Bits.{bit_or, or_step, or_lt}
use lib.Pow.{pow_pos}
use Rattle.scan_hash_table.specs.ChainHeads.{max_items, link_of, mark_of, Pushed}

pub bucket-lt : (h heads : ℕ) → h < 2147483647 → 1 ≤ heads → h * heads / 2147483648 < heads
bucket-lt h heads l m =
    let k : h < 2147483648 = omega arith in
    let p : h * heads < 2147483648 * heads = mul-lt-mul_of_pos_right k (omega arith) in
    (div-lt_iff_lt-mul {k = 2147483648} (omega arith)).1 (omega (arith, p, mul_comm 2147483648 heads))

-- binary digits
digit_lt : (x : ℕ) → x % 2 < 2
digit_lt x = mod-lt x (omega arith)

max-digits : (a b : ℕ) → max (a % 2) (b % 2) < 2
max-digits a b = omega (arith, digit_lt a, digit_lt b)

half : (x j : ℕ) → x / 2 ^ suc j ≡ x / 2 / 2 ^ j
half x j = ap (λ (k : ℕ). x / k) (pow-suc 2 j ∙ mul_comm (2 ^ j) 2) ∙ sym (div-div-eq-div-mul x 2 (2 ^ j))

or-odd : (a b : ℕ) → bit_or a b % 2 ≡ max (a % 2) (b % 2)
or-odd a b =
    ap (λ (x : ℕ). x % 2) (or_step a b)
    ∙ mul-add-mod_self_right (bit_or (a / 2) (b / 2)) 2 (max (a % 2) (b % 2))
    ∙ mod-eq_of_lt (max-digits a b)

or-half : (a b : ℕ) → bit_or a b / 2 ≡ bit_or (a / 2) (b / 2)
or-half a b =
    ap (λ (x : ℕ). x / 2) (or_step a b)
    ∙ mul-add-div_right {m = 2} (omega arith) (bit_or (a / 2) (b / 2)) (max (a % 2) (b % 2))
    ∙ ap (λ (x : ℕ). bit_or (a / 2) (b / 2) + x) (div-eq_of_lt (max-digits a b))
    ∙ add-zero (bit_or (a / 2) (b / 2))

or-digit : (j a b : ℕ) → bit_or a b / 2 ^ j % 2 ≡ max (a / 2 ^ j % 2) (b / 2 ^ j % 2)
or-digit zero a b = rw (div-one, div-one, div-one) (or-odd a b)
or-digit (suc j) a b =
    ap (λ (x : ℕ). x % 2) (half (bit_or a b) j ∙ ap (λ (x : ℕ). x / 2 ^ j) (or-half a b))
    ∙ or-digit j (a / 2) (b / 2)
    ∙ ap₂ max (ap (λ (x : ℕ). x % 2) (sym (half a j))) (ap (λ (x : ℕ). x % 2) (sym (half b j)))

-- The low eight digits of a number.
item-low-digit : (a m j : ℕ) → j < 8 → (a * 256 + m) / 2 ^ j % 2 ≡ m / 2 ^ j % 2
item-low-digit a m zero l = omega arith
item-low-digit a m (suc zero) l = omega arith
item-low-digit a m (suc (suc zero)) l = omega arith
item-low-digit a m (suc (suc (suc zero))) l = omega arith
item-low-digit a m (suc (suc (suc (suc zero)))) l = omega arith
item-low-digit a m (suc (suc (suc (suc (suc zero))))) l = omega arith
item-low-digit a m (suc (suc (suc (suc (suc (suc zero)))))) l = omega arith
item-low-digit a m (suc (suc (suc (suc (suc (suc (suc zero))))))) l = omega arith
item-low-digit a m (suc (suc (suc (suc (suc (suc (suc (suc j)))))))) l = absurd (let z : ⊥ = omega arith in z)

-- The marks of a head, and the new one.
module _ (w h x : ℕ) (few : x < max_items) where
  abbrev k : ℕ
  k = h % 8

  abbrev one_mark : ℕ
  one_mark = 1 * 2 ^ k % 4294967296

  abbrev marks : ℕ
  marks = bit_or (w % 256) one_mark

  k-few : k < 8
  k-few = mod-lt h {m = 8} (omega arith)

  pow-few : 2 ^ k ≤ 128
  pow-few = pow-le-pow_right {n = 2} (omega arith) {i = k} {j = 7} (omega (arith, k-few))

  one_is : one_mark ≡ 2 ^ k
  one_is = ap (λ (y : ℕ). y % 4294967296) (one-mul (2 ^ k)) ∙ mod-eq_of_lt {n = 2 ^ k} {m = 4294967296} (omega (arith, pow-few))

  pub marks-lt : marks < 256
  marks-lt = or_lt 8 (w % 256) one_mark (omega (arith, mod-lt w {m = 256} (omega arith))) (omega (arith, one_is, pow-few))

  abbrev new : ℕ
  new = (x + 1) * 256 + marks

  digit-of : (j : ℕ) → j < 8 → new / 2 ^ j % 2 ≡ max (w / 2 ^ j % 2) (one_mark / 2 ^ j % 2)
  digit-of j l =
      let e : w / 256 * 256 + w % 256 ≡ w = omega (arith, mod-add-div w 256) in
      item-low-digit (x + 1) marks j l ∙ or-digit j (w % 256) one_mark
      ∙ ap (λ (y : ℕ). max y (one_mark / 2 ^ j % 2)) (sym (item-low-digit (w / 256) (w % 256) j l) ∙ ap (λ (y : ℕ). y / 2 ^ j % 2) e)

  pub is-pushed : Pushed w h x new
  unfolding link_of mark_of
  is-pushed = record {
    link = mul-add-div_right {m = 256} (omega arith) (x + 1) marks ∙ omega (arith, div-eq_of_lt {n = marks} {m = 256} marks-lt);
    mark = digit-of k k-few ∙ own;
    others = λ j l e. digit-of j l ∙ omega (arith, e, digit_lt (one_mark / 2 ^ j));
  }
    where
      here : one_mark / 2 ^ k % 2 ≡ 1
      here = ap (λ (y : ℕ). y / 2 ^ k % 2) (one_is ∙ sym (one-mul (2 ^ k))) ∙ ap (λ (y : ℕ). y % 2) (mul-div_cancel 1 {n = 2 ^ k} (pow_pos k))

      own : max (w / 2 ^ k % 2) (one_mark / 2 ^ k % 2) ≡ 1
      own = omega (arith, here, digit_lt (w / 2 ^ k))
