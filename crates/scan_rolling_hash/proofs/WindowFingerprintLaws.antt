-- Fingerprints of windows: one byte more, the window moved by one, two adjacent windows joined.
use mathlib.Core.List.{List, [], ◌∷◌, ◌++◌}
use mathlib.Core.Path.{◌≡◌, refl, sym, ap, ap₂, ◌∙◌}
use Prim.Native.Nat.{ℕ, zero, suc, ◌+◌, ◌-◌, ◌*◌, ◌/◌, ◌%◌, ◌^◌, ◌≤◌, ◌<◌}
use native.Mathlib.Omega.{arith}
use native.Mathlib.Numerals.{add-one}
use native.Mathlib.Nat.{mod-lt, mod-eq_of_lt, mod-add-div, mod-add-mod, add-mod-mod, add-mul-mod_self_left}
use native.Mathlib.Nat.{mul_comm, mul_assoc, mul-suc, add-mul, mul-le-mul, pow-zero, pow-suc, zero-mul, add-zero}
use lib.ListN.{length, take, drop, get_or}
use lib.Seq.{take-suc, drop-cons, get_or-take, get_or-drop}
use Rattle.std.specs.Simd.{first_chunks}
use Rattle.text.specs.Text.{substring}
use Rattle.text.specs.TextLaws.{substring-add, length-substring}
use Rattle.search.specs.FingerValues.{search_digits}
use Rattle.search.proofs.Modulo.{mul-mod, cancel, added, power-more}
use Rattle.scan_rolling_hash.specs.Fingerprints.{base_of, fingerprint}

abbrev pub modulus : ℕ
modulus = 2147483647

pub base-below : (seed : ℕ) → base_of seed < 1073741824
base-below seed = mod-lt seed (omega arith)

pub remainder-below : (x r : ℕ) → r ≡ x % modulus → r < modulus
remainder-below x r e = omega (arith, e, mod-lt x {m = modulus} (omega arith))

-- Remainders of sums and products.
same-product : (a c b q : ℕ) → a % q ≡ c % q → a * b % q ≡ c * b % q
same-product a c b q e = sym (mul-mod a b q) ∙ ap (λ (y : ℕ). y * b % q) e ∙ mul-mod c b q

same_sum : (a c x q : ℕ) → a % q ≡ c % q → (a + x) % q ≡ (c + x) % q
same_sum a c x q e = sym (mod-add-mod a q x) ∙ ap (λ (y : ℕ). (y + x) % q) e ∙ mod-add-mod c q x

sum_more : (a c t w o q : ℕ) → a % q ≡ c % q → t ≡ w % q → (a + t * o) % q ≡ (c + w * o) % q
sum_more a c t w o q e f = added a t w o q f ∙ same_sum a c (w * o) q e

-- 2^31 has the remainder 1
pub fold_same : (x : ℕ) → (x % 2147483648 + x / 2147483648) % 2147483647 ≡ x % 2147483647
fold_same x =
    let e : x % 2147483648 + x / 2147483648 + 2147483647 * (x / 2147483648) ≡ x = omega (arith, mod-add-div x 2147483648) in
    sym (add-mul-mod_self_left (x % 2147483648 + x / 2147483648) 2147483647 (x / 2147483648)) ∙ ap (λ (y : ℕ). y % 2147483647) e

-- Digits of two lists, one after the other.
digits_append : (b a : ℕ) (s t : List ℕ) → search_digits b a (s ++ t) ≡ search_digits b (search_digits b a s) t
unfolding search_digits
digits_append b a [] t = refl
digits_append b a (x ∷ s) t = digits_append b (a * b + x) s t

rolling-digits-lift : (b k : ℕ) (s : List ℕ) → search_digits b k s ≡ k * b ^ length s + search_digits b 0 s
unfolding search_digits
rolling-digits-lift b k [] = rw (pow-zero b) (omega arith)
rolling-digits-lift b k (x ∷ s) =
    let e : k * b ^ suc (length s) ≡ k * b * b ^ length s = rw (pow-suc b (length s), mul_comm (b ^ length s) b) (sym (mul_assoc k b (b ^ length s))) in
    let z : 0 * b + x ≡ x = omega (arith, zero-mul b) in
    rolling-digits-lift b (k * b + x) s
    ∙ omega (arith, e, add-mul (k * b) x (b ^ length s), ap (λ (y : ℕ). search_digits b y s) z, rolling-digits-lift b x s)

digits_last : (b a : ℕ) (s : List ℕ) (y : ℕ) → search_digits b a (s ++ (y ∷ [])) ≡ search_digits b a s * b + y
unfolding search_digits
digits_last b a s y = digits_append b a s (y ∷ [])

-- An element of a chunk.
pub in-chunk : (n k : ℕ) (s : List ℕ) (m j : ℕ) (d : List ℕ) → m < k → j < n → get_or (get_or (first_chunks n k s) m d) j 0 ≡ get_or s (n * m + j) 0
in-chunk n zero s m j d l b = absurd (omega arith)
in-chunk n (suc k) s zero j d l b = get_or-take n s j 0 b ∙ ap (λ (x : ℕ). get_or s x 0) (omega arith)
in-chunk n (suc k) s (suc m) j d l b =
    in-chunk n k (drop n s) m j d (omega arith) b ∙ get_or-drop n s (n * m + j) 0 ∙ ap (λ (x : ℕ). get_or s x 0) (omega (arith, mul-suc n m))

one_byte : (T : List ℕ) (p : ℕ) → p < length T → substring T p 1 ≡ get_or T p 0 ∷ []
unfolding substring
one_byte T p l = ap (take 1) (drop-cons T p 0 l)

module _ (seed : ℕ) where
  abbrev β : ℕ
  β = base_of seed

  pub fingerprint-nil : 0 % modulus ≡ fingerprint seed []
  unfolding fingerprint search_digits
  fingerprint-nil = ap (λ (y : ℕ). y % modulus) (sym (zero-mul β))

  pub fingerprint-none : (s : List ℕ) → 0 % modulus ≡ fingerprint seed (take 0 s)
  fingerprint-none s = fingerprint-nil

  pub fingerprint-below : (s : List ℕ) → fingerprint seed s < modulus
  unfolding fingerprint
  fingerprint-below s = mod-lt (search_digits β 0 s * β) (omega arith)

  pub is-fingerprint-below : (s : List ℕ) (h : ℕ) → h ≡ fingerprint seed s → h < modulus
  is-fingerprint-below s h e = omega (arith, e, fingerprint-below s)

  -- One byte more.
  pub fingerprint-push : (s : List ℕ) (i j h x : ℕ) → i < length s → j ≡ i + 1 → x ≡ get_or s i 0 → h % modulus ≡ fingerprint seed (take i s)
      → (h + x) * β % modulus ≡ fingerprint seed (take j s)
  unfolding fingerprint
  fingerprint-push s i j h x l ej ex e =
      same-product (h + x) (search_digits β 0 (take i s) * β + x) β modulus (same_sum h (search_digits β 0 (take i s) * β) x modulus e)
      ∙ ap (λ (y : ℕ). (search_digits β 0 (take i s) * β + y) * β % modulus) ex
      ∙ ap (λ (y : ℕ). y * β % modulus) (sym (digits_last β 0 (take i s) (get_or s i 0)))
      ∙ ap (λ (l : List ℕ). search_digits β 0 l * β % modulus) (sym (ap (λ (k : ℕ). take k s) (ej ∙ add-one i) ∙ take-suc s i 0 l))

  -- Four bytes more.
  module _ (h a₁ a₂ a₃ a₄ : ℕ) where
    abbrev h₁ : ℕ
    h₁ = (h + a₁) * β

    abbrev h₂ : ℕ
    h₂ = (h₁ + a₂) * β

    abbrev h₃ : ℕ
    h₃ = (h₂ + a₃) * β

    abbrev h₄ : ℕ
    h₄ = (h₃ + a₄) * β

    two-factors : (y : ℕ) → β * β * y ≡ y * β * β
    two-factors y = mul_comm (β * β) y ∙ sym (mul_assoc y β β)

    three-factors : (y : ℕ) → β * β * β * y ≡ y * β * β * β
    three-factors y = mul_comm (β * β * β) y ∙ sym (mul_assoc y (β * β) β) ∙ ap (λ (z : ℕ). z * β) (sym (mul_assoc y β β))

    four-factors : (y : ℕ) → β * β * β * β * y ≡ y * β * β * β * β
    four-factors y =
        mul_comm (β * β * β * β) y ∙ sym (mul_assoc y (β * β * β) β)
        ∙ ap (λ (z : ℕ). z * β) (sym (mul_assoc y (β * β) β) ∙ ap (λ (z : ℕ). z * β) (sym (mul_assoc y β β)))

    spread : β * β * β * β * (h + a₁) + β * β * β * a₂ + β * β * a₃ + β * a₄ ≡ h₄
    spread =
        let u : ℕ = h + a₁ in
        let e₂ : h₂ ≡ u * β * β + a₂ * β = add-mul (u * β) a₂ β in
        let e₃ : h₃ ≡ u * β * β * β + a₂ * β * β + a₃ * β =
        add-mul h₂ a₃ β ∙ ap (λ (z : ℕ). z + a₃ * β) (ap (λ (z : ℕ). z * β) e₂ ∙ add-mul (u * β * β) (a₂ * β) β) in
        let e₄ : h₄ ≡ u * β * β * β * β + a₂ * β * β * β + a₃ * β * β + a₄ * β =
        add-mul h₃ a₄ β ∙ ap (λ (z : ℕ). z + a₄ * β) (ap (λ (z : ℕ). z * β) e₃ ∙ add-mul (u * β * β * β + a₂ * β * β) (a₃ * β) β
        ∙ ap (λ (z : ℕ). z + a₃ * β * β) (add-mul (u * β * β * β) (a₂ * β * β) β)) in
        ap₂ ◌+◌ (ap₂ ◌+◌ (ap₂ ◌+◌ (four-factors u) (three-factors a₂)) (two-factors a₃)) (mul_comm β a₄) ∙ sym e₄

    -- With powers of the base modulo the modulus.
    pub four-steps : (t₁ t₂ t₃ t₄ : ℕ) → t₁ ≡ β → t₂ ≡ β * β % modulus → t₃ ≡ β * β * β % modulus → t₄ ≡ β * β * β * β % modulus
        → (t₄ * (h + a₁) + t₃ * a₂ + t₂ * a₃ + t₁ * a₄) % modulus ≡ h₄ % modulus
    four-steps t₁ t₂ t₃ t₄ e₁ e₂ e₃ e₄ =
        let u : ℕ = h + a₁ in
        let s₁ : t₄ * u % modulus ≡ β * β * β * β * u % modulus = ap (λ (z : ℕ). z * u % modulus) e₄ ∙ mul-mod (β * β * β * β) u modulus in
        let s₂ = sum_more (t₄ * u) (β * β * β * β * u) t₃ (β * β * β) a₂ modulus s₁ e₃ in
        let s₃ = sum_more (t₄ * u + t₃ * a₂) (β * β * β * β * u + β * β * β * a₂) t₂ (β * β) a₃ modulus s₂ e₂ in
        let o : t₁ ≡ β % modulus = e₁ ∙ sym (mod-eq_of_lt {n = β} {m = modulus} (omega (arith, base-below seed))) in
        sum_more (t₄ * u + t₃ * a₂ + t₂ * a₃) (β * β * β * β * u + β * β * β * a₂ + β * β * a₃) t₁ β a₄ modulus s₃ o
        ∙ ap (λ (z : ℕ). z % modulus) spread

  pub fingerprint-four : (s : List ℕ) (i h a₁ a₂ a₃ a₄ r : ℕ) → i + 4 ≤ length s
      → a₁ ≡ get_or s i 0 → a₂ ≡ get_or s (i + 1) 0 → a₃ ≡ get_or s (i + 2) 0 → a₄ ≡ get_or s (i + 3) 0
      → h % modulus ≡ fingerprint seed (take i s) → r % modulus ≡ h₄ h a₁ a₂ a₃ a₄ % modulus → r % modulus ≡ fingerprint seed (take (i + 4) s)
  fingerprint-four s i h a₁ a₂ a₃ a₄ r l x₁ x₂ x₃ x₄ e er =
      let p₁ = fingerprint-push s i (i + 1) h a₁ (omega arith) refl x₁ e in
      let p₂ = fingerprint-push s (i + 1) (i + 2) (h₁ h a₁ a₂ a₃ a₄) a₂ (omega arith) (omega arith) x₂ p₁ in
      let p₃ = fingerprint-push s (i + 2) (i + 3) (h₂ h a₁ a₂ a₃ a₄) a₃ (omega arith) (omega arith) x₃ p₂ in
      er ∙ fingerprint-push s (i + 3) (i + 4) (h₃ h a₁ a₂ a₃ a₄) a₄ (omega arith) (omega arith) x₄ p₃

  -- A window moved on.
  module _ (T : List ℕ) (p n : ℕ) (l : p + n < length T) where
    abbrev here : ℕ
    here = search_digits β 0 (substring T p n)

    abbrev next : ℕ
    next = search_digits β 0 (substring T (p + 1) n)

    entered : search_digits β 0 (substring T p (n + 1)) ≡ here * β + get_or T (p + n) 0
    entered =
        ap (search_digits β 0) (substring-add T p n 1 ∙ ap (λ (s : List ℕ). substring T p n ++ s) (one_byte T (p + n) l))
        ∙ digits_last β 0 (substring T p n) (get_or T (p + n) 0)

    left_out : search_digits β 0 (substring T p (1 + n)) ≡ get_or T p 0 * β ^ n + next
    unfolding search_digits
    left_out =
        let z : 0 * β + get_or T p 0 ≡ get_or T p 0 = omega (arith, zero-mul β) in
        ap (search_digits β 0) (substring-add T p 1 n ∙ ap (λ (s : List ℕ). s ++ substring T (p + 1) n) (one_byte T p (omega arith)))
        ∙ rolling-digits-lift β (0 * β + get_or T p 0) (substring T (p + 1) n)
        ∙ ap₂ (λ (x k : ℕ). x * β ^ k + next) z (length-substring T (p + 1) n (omega arith))

    one-step : (here * β + get_or T (p + n) 0) * β ≡ next * β + β ^ (n + 1) * get_or T p 0
    one-step =
        let e : n + 1 ≡ 1 + n = omega arith in
        let o : ℕ = get_or T p 0 in
        let w : β ^ (n + 1) * o ≡ o * β ^ n * β =
        ap (λ (k : ℕ). β ^ k * o) (add-one n) ∙ ap (λ (k : ℕ). k * o) (pow-suc β n) ∙ mul_comm (β ^ n * β) o ∙ sym (mul_assoc o (β ^ n) β) in
        let d : (o * β ^ n + next) * β ≡ o * β ^ n * β + next * β = add-mul (o * β ^ n) next β in
        ap (λ (z : ℕ). z * β) (sym entered ∙ ap (λ (k : ℕ). search_digits β 0 (substring T p k)) e ∙ left_out) ∙ omega (arith, w, d)

    pub fingerprint-roll : (h t x out : ℕ) → h ≡ fingerprint seed (substring T p n) → t ≡ β ^ (n + 1) % modulus → out ≡ get_or T p 0 → x ≡ get_or T (p + n) 0
        → ((h + x) * β + out * (modulus - t)) % modulus ≡ fingerprint seed (substring T (p + 1) n)
    unfolding fingerprint
    fingerprint-roll h t x out eh et eo ex =
        let lt : t < modulus = omega (arith, et, mod-lt (β ^ (n + 1)) {m = modulus} (omega arith)) in
        let q : modulus - t + t ≡ modulus = omega arith in
        let d : modulus * out ≡ out * (modulus - t) + t * out =
        ap (λ (z : ℕ). z * out) (sym q) ∙ add-mul (modulus - t) t out ∙ ap (λ (z : ℕ). z + t * out) (mul_comm (modulus - t) out) in
        let s : (h + x) * β + out * (modulus - t) + t * out ≡ (h + x) * β + modulus * out = omega (arith, d) in
        let r : h % modulus ≡ here * β % modulus =
        ap (λ (z : ℕ). z % modulus) eh ∙ mod-eq_of_lt {n = here * β % modulus} {m = modulus} (mod-lt (here * β) (omega arith)) in
        cancel ((h + x) * β + out * (modulus - t)) (next * β) (t * out) modulus (omega arith)
        (ap (λ (z : ℕ). z % modulus) s ∙ add-mul-mod_self_left ((h + x) * β) modulus out
        ∙ same-product (h + x) (here * β + x) β modulus (same_sum h (here * β) x modulus r)
        ∙ ap (λ (z : ℕ). (here * β + z) * β % modulus) ex
        ∙ ap (λ (z : ℕ). z % modulus) (one-step ∙ ap (λ (z : ℕ). next * β + β ^ (n + 1) * z) (sym eo))
        ∙ sym (added (next * β) t (β ^ (n + 1)) out modulus et))

  -- The fingerprint of two adjacent windows.
  pub fingerprint-join : (T : List ℕ) (p a n h t g : ℕ) → p + a + n ≤ length T → h ≡ fingerprint seed (substring T p a) → t ≡ β ^ n % modulus
      → g ≡ fingerprint seed (substring T (p + a) n) → (h * t + g) % modulus ≡ fingerprint seed (substring T p (a + n))
  unfolding fingerprint
  fingerprint-join T p a n h t g fits eh et eg =
      let u : ℕ = search_digits β 0 (substring T p a) in
      let v : ℕ = search_digits β 0 (substring T (p + a) n) in
      let digits_are : search_digits β 0 (substring T p (a + n)) ≡ u * β ^ n + v =
      ap (search_digits β 0) (substring-add T p a n) ∙ digits_append β 0 (substring T p a) (substring T (p + a) n)
      ∙ rolling-digits-lift β u (substring T (p + a) n)
      ∙ ap (λ (k : ℕ). u * β ^ k + v) (length-substring T (p + a) n fits) in
      let swap : u * β ^ n * β ≡ u * β * β ^ n = mul_assoc u (β ^ n) β ∙ ap (λ (z : ℕ). u * z) (mul_comm (β ^ n) β) ∙ sym (mul_assoc u β (β ^ n)) in
      let both : search_digits β 0 (substring T p (a + n)) * β ≡ u * β * β ^ n + v * β =
      ap (λ (z : ℕ). z * β) digits_are ∙ add-mul (u * β ^ n) v β ∙ ap (λ (z : ℕ). z + v * β) swap in
      let first : h * t % modulus ≡ u * β * β ^ n % modulus =
      ap (λ (y : ℕ). y * t % modulus) eh ∙ mul-mod (u * β) t modulus
      ∙ ap (λ (y : ℕ). y % modulus) (mul_comm (u * β) t)
      ∙ ap (λ (y : ℕ). y * (u * β) % modulus) et ∙ mul-mod (β ^ n) (u * β) modulus
      ∙ ap (λ (y : ℕ). y % modulus) (mul_comm (β ^ n) (u * β)) in
      same_sum (h * t) (u * β * β ^ n) g modulus first
      ∙ ap (λ (y : ℕ). (u * β * β ^ n + y) % modulus) eg
      ∙ add-mod-mod (u * β * β ^ n) (v * β) modulus
      ∙ ap (λ (y : ℕ). y % modulus) (sym both)

  pub power-next : (w i : ℕ) → w ≡ β ^ i % modulus → w * β % modulus ≡ β ^ (i + 1) % modulus
  power-next w i e = power-more w β i modulus e

  pub first-power : (o : ℕ) → o ≡ β → o ≡ β % modulus
  first-power o e = e ∙ sym (mod-eq_of_lt {n = β} {m = modulus} (omega (arith, base-below seed)))

  pub next_power : (w o x r : ℕ) → w ≡ x % modulus → o ≡ β → r ≡ (w * o + 0) % modulus → r ≡ x * β % modulus
  next_power w o x r ew eo er =
      er ∙ ap (λ (y : ℕ). y % modulus) (add-zero (w * o)) ∙ ap₂ (λ (y k : ℕ). y * k % modulus) ew eo ∙ mul-mod x β modulus

-- Sums and products fit.
pub rolling-product-fits : (x y : ℕ) → x < 4294967296 → y < 4294967296 → x * y ≤ 18446744065119617025
rolling-product-fits x y l m = mul-le-mul {n₂ = 4294967295} {m₂ = 4294967295} (omega arith) (omega arith)

pub push-fits : (h x b : ℕ) → h < 8589934592 → x < 256 → b < 1073741824 → (h + x) * b ≤ 9223372300995264258
push-fits h x b l m n = mul-le-mul {n₂ = 8589934846} {m₂ = 1073741823} (omega arith) (omega arith)

pub roll-fits : (h x b : ℕ) → h < 2147483647 → x < 256 → b < 1073741824 → (h + x) * b ≤ 2305843278722891523
roll-fits h x b l m n = mul-le-mul {n₂ = 2147483901} {m₂ = 1073741823} (omega arith) (omega arith)

pub first_fits : (t h x : ℕ) → t < 2147483647 → h < 4294967296 → x < 256 → t * (h + x) ≤ 9223372575873170946
first_fits t h x l m n = mul-le-mul {n₂ = 2147483646} {m₂ = 4294967551} (omega arith) (omega arith)

pub power-fits : (w b : ℕ) → w < 2147483647 → b < 1073741824 → w * b ≤ 2305843004918726658
power-fits w b l m = mul-le-mul {n₂ = 2147483646} {m₂ = 1073741823} (omega arith) (omega arith)

pub leaving-fits : (x t : ℕ) → x < 256 → t ≤ 2147483647 → x * t ≤ 547608329985
leaving-fits x t l m = mul-le-mul {n₂ = 255} {m₂ = 2147483647} (omega arith) (omega arith)

pub byte_fits : (t x : ℕ) → t < 2147483647 → x < 256 → t * x ≤ 547608329730
byte_fits t x l m = mul-le-mul {n₂ = 2147483646} {m₂ = 255} (omega arith) (omega arith)

pub fold-fits : (x r : ℕ) → r ≡ x % 2147483648 + x / 2147483648 → x ≤ 9223372300995264258 → r < 8589934592
fold-fits x r e l = omega (arith, mod-lt x {m = 2147483648} (omega arith))

pub fold-most : (x y : ℕ) → y ≡ x % 2147483648 + x / 2147483648 → x < 18446744073709551616 → y < 10737418240
fold-most x y e l = omega (arith, mod-lt x {m = 2147483648} (omega arith))

pub fold-again : (y r : ℕ) → r ≡ y % 2147483648 + y / 2147483648 → y < 10737418240 → r < 4294967296
fold-again y r e l = omega (arith, mod-lt y {m = 2147483648} (omega arith))

pub fold_is : (x r : ℕ) → r ≡ x % 2147483648 + x / 2147483648 → r % modulus ≡ x % modulus
fold_is x r e = ap (λ (y : ℕ). y % modulus) e ∙ fold_same x
