-- The power of an arity by the binary digits of its exponent, and the bounds of its products.
use mathlib.Core.Path.{◌≡◌, sym, ap, ◌∙◌}
use Prim.Native.Nat.{ℕ, zero, suc, ◌+◌, ◌-◌, ◌*◌, ◌/◌, ◌%◌, ◌^◌, ◌≤◌, ◌<◌}
use native.Mathlib.Omega.{arith}
use native.Mathlib.Nat.{pow-zero, pow-suc, one-mul, pow-le-pow_left, pow-le-pow_right, le_trans, mul-le-mul}
use lib.Dec.{lit<}
use lib.Pow.{pow-add}
use Rattle.format.specs.Layout.{max_leaf, max_arity, max_levels}

-- A digit that is 0, and one that is 1.
pub factor-none : (n f : ℕ) → n % 2 ≡ 0 → 1 ≡ f ^ (n % 2)
factor-none n f e = rw (e, pow-zero f)

power-one : (f : ℕ) → f ^ 1 ≡ f
power-one f = pow-suc f 0 ∙ rw (pow-zero f) (one-mul f)

pub factor-one : (n f : ℕ) → (n % 2 ≡ 0 → ⊥) → f ≡ f ^ (n % 2)
factor-one n f h = let e : n % 2 ≡ 1 = omega arith in rw e (sym (power-one f))

-- The powers of a square.
square-power : (a k : ℕ) → (a * a) ^ k ≡ a ^ (2 * k)
square-power a zero = pow-zero (a * a) ∙ sym (pow-zero a)
square-power a (suc k) =
    let e : 2 * suc k ≡ 2 * k + 2 = omega arith in
    let two : a ^ 2 ≡ a * a = pow-suc a 1 ∙ rw (power-one a) in
    pow-suc (a * a) k ∙ rw (e, pow-add a (2 * k) 2, two, square-power a k)

-- Powers of bounded settings are below 2^32.
power-bound : (a n : ℕ) → a ≤ max_arity → n < max_levels → a ^ n ≤ max_arity ^ (max_levels - 1)
power-bound a n high low =
    let top : n ≤ max_levels - 1 = omega arith in
    le_trans (pow-le-pow_left high n) (pow-le-pow_right (lit< tt) top)

pub length-bound : (m a n p : ℕ) → m ≤ max_leaf → a ≤ max_arity → n < max_levels → p ≡ a ^ n → m * p ≤ max_leaf * max_arity ^ (max_levels - 1)
length-bound m a n p m-high high low p-is = rw p-is (mul-le-mul m-high (power-bound a n high low))

-- Factors by the digits of the exponent e: their products do not wrap, and the product of all is the power.
module _ (a e : ℕ) (high : a ≤ max_arity) (low : e < max_levels) where
  pub square-bound : a * a ≤ max_arity * max_arity
  square-bound = mul-le-mul high high

  pub fourth-bound : a * a * (a * a) ≤ max_arity * max_arity * (max_arity * max_arity)
  fourth-bound = mul-le-mul square-bound square-bound

  module _ (x y : ℕ) (x-is : x ≡ a ^ (e % 2)) (y-is : y ≡ (a * a) ^ (e / 2 % 2)) where
    two_digits : x * y ≡ a ^ (e % 2 + 2 * (e / 2 % 2))
    two_digits = rw (x-is, y-is, square-power a (e / 2 % 2)) (sym (pow-add a (e % 2) (2 * (e / 2 % 2))))

    pub two-bound : x * y ≤ max_arity ^ (max_levels - 1)
    two-bound = rw two_digits (power-bound a (e % 2 + 2 * (e / 2 % 2)) high (omega arith))

    module _ (z : ℕ) (z-is : z ≡ (a * a * (a * a)) ^ (e / 2 / 2 % 2)) where
      pub three_digits : x * y * z ≡ a ^ e
      three_digits =
          let k : ℕ = e / 2 / 2 % 2 in
          let fourth : z ≡ a ^ (2 * (2 * k)) = z-is ∙ square-power (a * a) k ∙ square-power a (2 * k) in
          let all : e % 2 + 2 * (e / 2 % 2) + 2 * (2 * k) ≡ e = omega arith in
          rw (two_digits, fourth) (sym (pow-add a (e % 2 + 2 * (e / 2 % 2)) (2 * (2 * k))) ∙ ap (λ (n : ℕ). a ^ n) all)

      pub three-bound : x * y * z ≤ max_arity ^ (max_levels - 1)
      three-bound = rw three_digits (power-bound a e high low)
