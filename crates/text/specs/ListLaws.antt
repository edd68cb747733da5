-- Laws of the definitions of `Lists`, and of tests joined by `&&` and `||`.
use Rattle.std.specs.Prelude.{List, [], ◌∷◌, ◌++◌, Bool, true, false, not, ◌&&◌, ◌||◌, ◌≡◌, refl, ◌⊎◌, ℕ, zero, suc, ◌+◌, ◌-◌, ◌≤◌, ◌<◌, length, get_or, set, drop, eqb}
use Rattle.std.proofs.Common.{ap, ◌∙◌, inl, inr, arith, not-suc-le-zero, le_of_suc-le-suc, add-one, eqb-true, eq-eqb}
use Rattle.std.proofs.Math.Decide.{dec_lt}
use Rattle.text.specs.Text.{tabulate, sum_below, all_below, same_list}

-- Tests.

pub bool_clash {ℓ} : {A : Type ℓ} → (b : Bool) → b ≡ true → b ≡ false → A
bool_clash true p q = absurd (let z : ◌≡◌ {A = ℕ} 0 1 = cc in omega arith)
bool_clash false p q = absurd (let z : ◌≡◌ {A = ℕ} 0 1 = cc in omega arith)

-- A test is one of its two values.
pub bool_cases : (b : Bool) → (b ≡ true) ⊎ (b ≡ false)
bool_cases true = inl refl
bool_cases false = inr refl

pub and_left : (a b : Bool) → (a && b) ≡ true → a ≡ true
and_left true b h = refl
and_left false b h = h

pub and_right : (a b : Bool) → (a && b) ≡ true → b ≡ true
and_right true b h = h
and_right false b h = bool_clash false h refl

pub and_both : {a b : Bool} → a ≡ true → b ≡ true → (a && b) ≡ true
and_both {a} {b} p q = rw (p, q)

pub and-false : (a : Bool) → (a && false) ≡ false
and-false true = refl
and-false false = refl

pub or_cases : (a b : Bool) → (a || b) ≡ true → (a ≡ true) ⊎ (b ≡ true)
or_cases true b h = inl refl
or_cases false b h = inr h

pub or_left : {a : Bool} (b : Bool) → a ≡ true → (a || b) ≡ true
or_left b p = rw p

pub or_right : (a : Bool) {b : Bool} → b ≡ true → (a || b) ≡ true
or_right true p = refl
or_right false p = p

pub not-eq-true : {b : Bool} → b ≡ false → not b ≡ true
not-eq-true p = rw p

-- Orders.

pub lt-or-ge : (a c : ℕ) → (a < c) ⊎ (c ≤ a)
lt-or-ge a c = go (dec_lt a c)
  where
    go : Dec (a < c) → (a < c) ⊎ (c ≤ a)
    go (yes h) = inl h
    go (no h) = inr (omega arith)

-- One more than a number that has n below it: the last one, or one before it.
pub below_suc : (i n : ℕ) → i < suc n → (i < n) ⊎ (i ≡ n)
below_suc i n h = go (lt-or-ge i n)
  where
    go : (i < n) ⊎ (n ≤ i) → (i < n) ⊎ (i ≡ n)
    go (inl l) = inl l
    go (inr g) = inr (omega arith)

pub pos-of-ne : (n : ℕ) → (n ≡ 0 → ⊥) → 0 < n
pos-of-ne zero h = absurd (h refl)
pos-of-ne (suc n) h = omega arith

-- `all_below` holds exactly where the test holds at each number.

pub all_below-at : (n : ℕ) (p : ℕ → Bool) → all_below n p ≡ true → (i : ℕ) → i < n → p i ≡ true
unfolding all_below
all_below-at zero p h i l = absurd (let z : ⊥ = omega arith in z)
all_below-at (suc n) p h i l = go (all_below-at n p (and_left _ _ h) i) (below_suc i n l)
  where
    go : (i < n → p i ≡ true) → (i < n) ⊎ (i ≡ n) → p i ≡ true
    go r (inl k) = r k
    go r (inr e) = ap p e ∙ and_right (all_below n p) (p n) h

pub all_below-make : (n : ℕ) (p : ℕ → Bool) → ((i : ℕ) → i < n → p i ≡ true) → all_below n p ≡ true
unfolding all_below
all_below-make zero p h = refl
all_below-make (suc n) p h = and_both (all_below-make n p (λ i l. h i (omega arith))) (h n (omega arith))

-- A test that fails below n makes it fail.
pub all_below-not : (n : ℕ) (p : ℕ → Bool) (i : ℕ) → i < n → p i ≡ false → all_below n p ≡ false
all_below-not n p i l f = go (bool_cases (all_below n p))
  where
    go : (all_below n p ≡ true) ⊎ (all_below n p ≡ false) → all_below n p ≡ false
    go (inl t) = bool_clash (p i) (all_below-at n p t i l) f
    go (inr e) = e

-- Sums.

pub sum_below-ext : (n : ℕ) (f g : ℕ → ℕ) → ((i : ℕ) → i < n → f i ≡ g i) → sum_below n f ≡ sum_below n g
unfolding sum_below
sum_below-ext zero f g h = refl
sum_below-ext (suc n) f g h = rw (sum_below-ext n f g (λ i l. h i (omega arith)), h n (omega arith))

pub sum_below-none : (n : ℕ) (f : ℕ → ℕ) → ((i : ℕ) → i < n → f i ≡ 0) → sum_below n f ≡ 0
unfolding sum_below
sum_below-none zero f h = refl
sum_below-none (suc n) f h = omega (arith, sum_below-none n f (λ i l. h i (omega arith)), h n (omega arith))

-- A part of a sum, with one more, is within the whole.
pub sum_below-part : (n : ℕ) (f : ℕ → ℕ) (i : ℕ) → i < n → sum_below i f + f i ≤ sum_below n f
unfolding sum_below
sum_below-part zero f i l = absurd (let z : ⊥ = omega arith in z)
sum_below-part (suc n) f i l = go (sum_below-part n f i) (below_suc i n l)
  where
    go : (i < n → sum_below i f + f i ≤ sum_below n f) → (i < n) ⊎ (i ≡ n) → sum_below i f + f i ≤ sum_below n f + f n
    go r (inl k) = omega (arith, r k)
    go r (inr e) = rw e (omega arith)

pub sum_below-suc : (n : ℕ) (f : ℕ → ℕ) → sum_below (n + 1) f ≡ sum_below n f + f n
unfolding sum_below
sum_below-suc n f = rw (let e : n + 1 ≡ suc n = omega arith in e)

-- A number below a sum lies in one of its parts.
pub sum_below-find : (n : ℕ) (f : ℕ → ℕ) (i : ℕ) → i < sum_below n f → (a : ℕ) × (j : ℕ) × (a < n) × (j < f a) × (i ≡ sum_below a f + j)
unfolding sum_below
sum_below-find zero f i h = absurd (let z : ⊥ = omega arith in z)
sum_below-find (suc n) f i h = go (sum_below-find n f i) (lt-or-ge i (sum_below n f))
  where
    go : (i < sum_below n f → (a : ℕ) × (j : ℕ) × (a < n) × (j < f a) × (i ≡ sum_below a f + j)) → (i < sum_below n f) ⊎ (sum_below n f ≤ i)
        → (a : ℕ) × (j : ℕ) × (a < suc n) × (j < f a) × (i ≡ sum_below a f + j)
    go r (inl k) = let found = r k in (found.0, found.1, omega (arith, found.2), found.3, found.4)
    go r (inr k) = (n, i - sum_below n f, omega arith, omega arith, omega arith)

-- Lists made by a function.

pub length-tabulate {ℓ} : {A : Type ℓ} (n : ℕ) (f : ℕ → A) → length (tabulate n f) ≡ n
unfolding tabulate
length-tabulate zero f = refl
length-tabulate (suc n) f = ap suc (length-tabulate n (λ i. f (suc i)))

pub get_or-tabulate {ℓ} : {A : Type ℓ} (n : ℕ) (f : ℕ → A) (i : ℕ) (d : A) → i < n → get_or (tabulate n f) i d ≡ f i
unfolding tabulate
get_or-tabulate zero f i d h = absurd (let z : ⊥ = omega arith in z)
get_or-tabulate (suc n) f zero d h = refl
get_or-tabulate (suc n) f (suc i) d h = get_or-tabulate n (λ j. f (suc j)) i d (omega arith)

pub tabulate-ext {ℓ} : {A : Type ℓ} (n : ℕ) (f g : ℕ → A) → ((i : ℕ) → i < n → f i ≡ g i) → tabulate n f ≡ tabulate n g
unfolding tabulate
tabulate-ext zero f g h = refl
tabulate-ext (suc n) f g h =
    rw (h 0 (omega arith)) (ap (λ r. g 0 ∷ r) (tabulate-ext n (λ i. f (suc i)) (λ i. g (suc i)) (λ i l. h (suc i) (omega arith))))

-- f 0, .., f (n - 1) written over the start of d: none, and one more by a store at n
pub tab-none : (f : ℕ → ℕ) (d : List ℕ) → d ≡ tabulate 0 f ++ drop 0 d
unfolding tabulate
tab-none f d = refl

tab-suc : (n : ℕ) (f : ℕ → ℕ) (d : List ℕ) → n < length d → set (tabulate n f ++ drop n d) n (f n) ≡ tabulate (suc n) f ++ drop (suc n) d
unfolding tabulate
tab-suc n f [] l = absurd (not-suc-le-zero l)
tab-suc zero f (x ∷ d) l = refl
tab-suc (suc n) f (x ∷ d) l = ap (λ (s : List ℕ). f 0 ∷ s) (tab-suc n (λ i. f (suc i)) d (le_of_suc-le-suc l))

pub tab-more : (n v : ℕ) (f : ℕ → ℕ) (d e : List ℕ) → n < length d → v ≡ f n → e ≡ tabulate n f ++ drop n d
    → set e n v ≡ tabulate (n + 1) f ++ drop (n + 1) d
tab-more n v f d e l v-is is = rw (v-is, is, add-one) (tab-suc n f d l)

-- `same_list` holds exactly of equal lists.

pub same_list-true : (a b : List ℕ) → same_list a b ≡ true → a ≡ b
unfolding same_list
same_list-true [] [] h = refl
same_list-true [] (y ∷ b) h = bool_clash false h refl
same_list-true (x ∷ a) [] h = bool_clash false h refl
same_list-true (x ∷ a) (y ∷ b) h = rw (eqb-true x y (and_left (eqb x y) (same_list a b) h), same_list-true a b (and_right (eqb x y) (same_list a b) h))

pub same_list-refl : (a : List ℕ) → same_list a a ≡ true
unfolding same_list
same_list-refl [] = refl
same_list-refl (x ∷ a) = and_both (eq-eqb x x refl) (same_list-refl a)

pub eq-same_list : (a b : List ℕ) → a ≡ b → same_list a b ≡ true
eq-same_list a b e = rw e (same_list-refl b)

pub ne-same_list : (a b : List ℕ) → (a ≡ b → ⊥) → same_list a b ≡ false
ne-same_list a b n = go (bool_cases (same_list a b))
  where
    go : (same_list a b ≡ true) ⊎ (same_list a b ≡ false) → same_list a b ≡ false
    go (inl t) = absurd (n (same_list-true a b t))
    go (inr e) = e
