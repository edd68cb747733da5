-- Fingerprints of lists: one byte more, and a window moved on.
use mathlib.Core.List.{List, [], ◌∷◌, ◌++◌}
use mathlib.Core.Path.{◌≡◌, refl, sym, ap, ◌∙◌}
use Prim.Native.Nat.{ℕ, suc, ◌+◌, ◌-◌, ◌*◌, ◌%◌, ◌^◌, ◌≤◌, ◌<◌}
use native.Mathlib.Omega.{arith}
use native.Mathlib.Numerals.{add-one}
use native.Mathlib.Nat.{zero-mod, add-mul, mul_assoc, mul_comm, pow-succ', pow-zero, zero-mul, mod-lt}
use lib.ListN.{length, take, drop, get_or, length-drop}
use lib.Seq.{take-suc, drop-cons, get_or-drop, length-take-le}
use Rattle.text.specs.Text.{substring}
use Rattle.search.specs.FingerValues.{search_digits, finger}
use Rattle.search.proofs.Modulo.{pushed, rolled}

digits-snoc : (b a : ℕ) (s : List ℕ) (y : ℕ) → search_digits b a (s ++ (y ∷ [])) ≡ search_digits b a s * b + y
unfolding search_digits
digits-snoc b a [] y = refl
digits-snoc b a (x ∷ s) y = digits-snoc b (a * b + x) s y

digits-lift : (b k a : ℕ) (s : List ℕ) → search_digits b (k + a) s ≡ b ^ length s * k + search_digits b a s
unfolding search_digits
digits-lift b k a [] = rw (pow-zero b) (omega arith)
digits-lift b k a (x ∷ s) =
    let e : (k + a) * b + x ≡ k * b + (a * b + x) = omega (arith, add-mul k a b) in
    let f : b ^ suc (length s) * k ≡ b ^ length s * (k * b) =
    rw (pow-succ' b (length s), mul_comm b (b ^ length s), mul_assoc (b ^ length s) b k, mul_comm b k) in
    rw (e, digits-lift b (k * b) (a * b + x) s, f)

pub finger-nil : (b q : ℕ) → 0 < q → 0 ≡ finger b q []
unfolding finger search_digits
finger-nil b q h = sym (zero-mod q)

-- The numbers of a window's digits at a place and at the next.
window-step :
    (b : ℕ) (T : List ℕ) (p n : ℕ) → p + n < length T
    → search_digits b 0 (substring T p n) * b + get_or T (p + n) 0 ≡ search_digits b 0 (substring T (p + 1) n) + b ^ n * get_or T p 0
unfolding substring search_digits
window-step b T p n h =
    let l : n < length (drop p T) = simp length-drop (omega arith) in
    let m : n ≤ length (drop (suc p) T) = simp length-drop (omega arith) in
    let last : take (suc n) (drop p T) ≡ take n (drop p T) ++ (get_or T (p + n) 0 ∷ []) =
    take-suc (drop p T) n 0 l ∙ ap (λ (y : ℕ). take n (drop p T) ++ (y ∷ [])) (get_or-drop p T n 0) in
    let first : take (suc n) (drop p T) ≡ get_or T p 0 ∷ take n (drop (suc p) T) =
    ap (λ (z : List ℕ). take (suc n) z) (drop-cons T p 0 (omega arith)) in
    let right : search_digits b 0 (take (suc n) (drop p T)) ≡ search_digits b 0 (take n (drop p T)) * b + get_or T (p + n) 0 =
    ap (search_digits b 0) last ∙ digits-snoc b 0 (take n (drop p T)) (get_or T (p + n) 0) in
    let e : 0 * b + get_or T p 0 ≡ get_or T p 0 + 0 = omega (arith, zero-mul b) in
    let left : search_digits b 0 (take (suc n) (drop p T)) ≡ b ^ n * get_or T p 0 + search_digits b 0 (take n (drop (suc p) T)) =
    ap (search_digits b 0) first
    ∙ ap (λ (y : ℕ). search_digits b y (take n (drop (suc p) T))) e
    ∙ digits-lift b (get_or T p 0) 0 (take n (drop (suc p) T))
    ∙ ap (λ (y : ℕ). b ^ y * get_or T p 0 + search_digits b 0 (take n (drop (suc p) T))) (length-take-le n (drop (suc p) T) m) in
    let s : p + 1 ≡ suc p = add-one p in
    rw s (omega arith)

-- The fingerprint of the window moved on.
pub finger-roll :
    (b q : ℕ) (T : List ℕ) (p n h t x out : ℕ) → p + n < length T → t < q → out < 256 → h ≡ finger b q (substring T p n) → t ≡ b ^ n % q
    → out ≡ get_or T p 0 → x ≡ get_or T (p + n) 0 → (h * b + x + (255 * q - t * out)) % q ≡ finger b q (substring T (p + 1) n)
unfolding finger
finger-roll b q T p n h t x out l lt lo eh et eo ex =
    rolled b q h t (search_digits b 0 (substring T p n)) (search_digits b 0 (substring T (p + 1) n)) (b ^ n) x out lt lo eh et
    (rw (eo, ex) (window-step b T p n l))

-- The fingerprint of one byte more.
pub finger-push :
    (b q : ℕ) (s : List ℕ) (i h : ℕ) → i < length s → h ≡ finger b q (take i s)
    → (h * b + get_or s i 0) % q ≡ finger b q (take (i + 1) s)
unfolding finger
finger-push b q s i h l e =
    pushed h (search_digits b 0 (take i s)) b (get_or s i 0) q e
    ∙ ap (λ (y : ℕ). y % q) (sym (digits-snoc b 0 (take i s) (get_or s i 0)))
    ∙ rw (add-one, take-suc s i 0)

pub finger-below : (b q : ℕ) (s : List ℕ) → 0 < q → finger b q s < q
unfolding finger
finger-below b q s h = mod-lt (search_digits b 0 s) h
