-- Sums and products modulo q.
use mathlib.Core.Path.{◌≡◌, sym, ap, ◌∙◌}
use Prim.Native.Nat.{ℕ, suc, ◌+◌, ◌-◌, ◌*◌, ◌/◌, ◌%◌, ◌^◌, ◌≤◌, ◌<◌}
use native.Mathlib.Omega.{arith}
use native.Mathlib.Numerals.{add-one}
use native.Mathlib.Nat.{add-mul, mul_assoc, suc-mul, mul-le-mul, pow-suc, mod-add-div, mod-add-mod, add-mod-mod, mod-lt, add-mul-mod_self_left}

pub mul-mod : (a c q : ℕ) → a % q * c % q ≡ a * c % q
mul-mod a c q =
    sym
    (ap (λ (x : ℕ). x * c % q) (sym (mod-add-div a q)) ∙ rw (add-mul, mul_assoc q) (add-mul-mod_self_left (a % q * c) q (a / q * c)))

-- a % q is determined by a sum with c.
from-sum : (a c q : ℕ) → 0 < q → ((a + c) % q + (q - 1) * c) % q ≡ a % q
from-sum a c q h =
    let e : q ≡ suc (q - 1) = omega arith in
    let p : q * c ≡ (q - 1) * c + c = ap (λ (x : ℕ). x * c) e ∙ suc-mul (q - 1) c in
    let s : a + c + (q - 1) * c ≡ a + q * c = omega arith in
    mod-add-mod (a + c) q ((q - 1) * c) ∙ ap (λ (x : ℕ). x % q) s ∙ add-mul-mod_self_left a q c

pub cancel : (a b c q : ℕ) → 0 < q → (a + c) % q ≡ (b + c) % q → a % q ≡ b % q
cancel a b c q h e = sym (from-sum a c q h) ∙ ap (λ (x : ℕ). (x + (q - 1) * c) % q) e ∙ from-sum b c q h

-- One digit more at the end.
pub pushed : (h v b x q : ℕ) → h ≡ v % q → (h * b + x) % q ≡ (v * b + x) % q
pushed h v b x q e =
    sym (mod-add-mod (h * b) q x)
    ∙ ap (λ (y : ℕ). (y + x) % q) (ap (λ (y : ℕ). y * b % q) e ∙ mul-mod v b q)
    ∙ mod-add-mod (v * b) q x

pub added : (a t w out q : ℕ) → t ≡ w % q → (a + t * out) % q ≡ (a + w * out) % q
added a t w out q e =
    sym (add-mod-mod a (t * out) q)
    ∙ ap (λ (y : ℕ). (a + y) % q) (ap (λ (y : ℕ). y * out % q) e ∙ mul-mod w out q)
    ∙ add-mod-mod a (w * out) q

pub top-fits : (t out q : ℕ) → t < q → out < 256 → t * out ≤ 255 * q
top-fits t out q l m =
    let p : t * out ≤ q * 255 = mul-le-mul (omega arith) (omega arith) in
    omega arith

-- The window moved on: v and v' are the numbers of its digits before and after.
pub rolled :
    (b q h t v v' w x out : ℕ) → t < q → out < 256 → h ≡ v % q → t ≡ w % q → v * b + x ≡ v' + w * out
    → (h * b + x + (255 * q - t * out)) % q ≡ v' % q
rolled b q h t v v' w x out l m eh et e =
    let p : t * out ≤ 255 * q = top-fits t out q l m in
    let s : h * b + x + (255 * q - t * out) + t * out ≡ h * b + x + q * 255 = omega arith in
    cancel
    (h * b + x + (255 * q - t * out)) v' (t * out) q (omega arith)
    (ap (λ (y : ℕ). y % q) s
    ∙ add-mul-mod_self_left (h * b + x) q 255
    ∙ pushed h v b x q eh
    ∙ ap (λ (y : ℕ). y % q) e
    ∙ sym (added v' t w out q et))

-- products of two numbers below q fit
pub product-fits : (x y q : ℕ) → x < q → y < q → q ≤ 2147483647 → x * y ≤ 4611686014132420609
product-fits x y q l m n = mul-le-mul {n₂ = 2147483647} {m₂ = 2147483647} (omega arith) (omega arith)

pub power-more : (w b i q : ℕ) → w ≡ b ^ i % q → w * b % q ≡ b ^ (i + 1) % q
power-more w b i q e = ap (λ (y : ℕ). y * b % q) e ∙ mul-mod (b ^ i) b q ∙ rw (add-one, pow-suc)

pub below : (t w q : ℕ) → 0 < q → t ≡ w % q → t < q
below t w q h e = rw e (mod-lt w h)
