-- Lists joined end to end, and the place in the join of an element of one of them.
use Rattle.std.specs.Prelude.{List, [], ◌∷◌, ◌++◌, map, ◌≡◌, refl, ◌⊎◌, ℕ, zero, suc, ◌+◌, ◌-◌, ◌*◌, ◌≤◌, ◌<◌, length, get_or}
use Rattle.std.proofs.Common.{append_assoc, append-nil, sym, ap, ◌∙◌, inl, inr, arith, suc-mul, add-mul, mul-le-mul_right, length-append, get_or-append-add}
use Rattle.std.proofs.Math.Arith.{digits_lt}
use Rattle.std.proofs.Math.ListN.{get_or-append}
use Rattle.text.specs.Text.{tabulate, concat, sum_below}
use Rattle.text.specs.ListLaws.{lt-or-ge, below_suc, sum_below-part}

-- Sums.

-- A place in a sum: the part that it falls in, and the place there.
pub record Placed (n : ℕ) (width : ℕ → ℕ) (x : ℕ) : Type 0 where
  pub part : ℕ
  pub place : ℕ
  pub part_lt : part < n
  pub place_lt : place < width part
  pub is : x ≡ sum_below part width + place

pub placed : (n : ℕ) (width : ℕ → ℕ) (x : ℕ) → x < sum_below n width → Placed n width x
unfolding sum_below
placed zero width x h = absurd (let z : ⊥ = omega arith in z)
placed (suc n) width x h = go (lt-or-ge x (sum_below n width)) (placed n width x)
  where
    go : (x < sum_below n width) ⊎ (sum_below n width ≤ x) → (x < sum_below n width → Placed n width x) → Placed (suc n) width x
    go (inl l) r =
        let q = r l in
        record { part = q.part; place = q.place; part_lt = omega (arith, q.part_lt); place_lt = q.place_lt; is = q.is }
    go (inr g) r =
        record { part = n; place = x - sum_below n width; part_lt = omega arith; place_lt = omega arith; is = omega arith }

pub sum_below-le : (n : ℕ) (width : ℕ → ℕ) (i : ℕ) → i ≤ n → sum_below i width ≤ sum_below n width
sum_below-le n width i h = go (lt-or-ge i n)
  where
    go : (i < n) ⊎ (n ≤ i) → sum_below i width ≤ sum_below n width
    go (inl l) = omega (arith, sum_below-part n width i l)
    go (inr g) = let e : i ≡ n = omega arith in rw e (omega arith)

pub sum_below-same : (n c : ℕ) → sum_below n (λ i. c) ≡ n * c
unfolding sum_below
sum_below-same zero c = omega arith
sum_below-same (suc n) c = rw (sum_below-same n c, suc-mul) (omega arith)

pub sum_below-scale : (n c : ℕ) (f : ℕ → ℕ) → sum_below n (λ i. f i * c) ≡ sum_below n f * c
unfolding sum_below
sum_below-scale zero c f = omega arith
sum_below-scale (suc n) c f = rw (sum_below-scale n c f) (sym (add-mul (sum_below n f) (f n) c))

-- A place in one of the parts of a whole, all of W numbers.
pub in-part : (a i c f W N : ℕ) → i < c → a + c ≤ N → f < W → a * W + (i * W + f) < N * W
in-part a i c f W N il le fl = omega (arith, digits_lt il fl, add-mul a c W, mul-le-mul_right W le)

-- Joins.

pub concat-suc : (n : ℕ) (f : ℕ → List ℕ) → concat (tabulate (suc n) f) ≡ concat (tabulate n f) ++ f n
unfolding tabulate concat
concat-suc zero f = append-nil (f 0)
concat-suc (suc n) f = ap (λ (l : List ℕ). f 0 ++ l) (concat-suc n (λ i. f (suc i))) ∙ sym (append_assoc (f 0) _ (f (suc n)))

length_none : (f : ℕ → List ℕ) → length (concat (tabulate 0 f)) ≡ 0
unfolding tabulate concat
length_none f = refl

pub length-concat : (n : ℕ) (f : ℕ → List ℕ) → length (concat (tabulate n f)) ≡ sum_below n (λ i. length (f i))
unfolding sum_below
length-concat zero f = length_none f
length-concat (suc n) f = rw (concat-suc n f, length-append, length-concat n f)

pub get_or-concat : (n : ℕ) (f : ℕ → List ℕ) (i j d : ℕ) → i < n → j < length (f i)
    → get_or (concat (tabulate n f)) (sum_below i (λ i. length (f i)) + j) d ≡ get_or (f i) j d
get_or-concat zero f i j d h k = absurd (let z : ⊥ = omega arith in z)
get_or-concat (suc n) f i j d h k = rw (concat-suc n f) (go (below_suc i n h) (get_or-concat n f i j d))
  where
    go : (i < n) ⊎ (i ≡ n) → (i < n → j < length (f i) → get_or (concat (tabulate n f)) (sum_below i (λ i. length (f i)) + j) d ≡ get_or (f i) j d)
        → get_or (concat (tabulate n f) ++ f n) (sum_below i (λ i. length (f i)) + j) d ≡ get_or (f i) j d
    go (inl l) r =
        get_or-append (concat (tabulate n f)) (f n) d _ (omega (arith, length-concat n f, sum_below-part n (λ i. length (f i)) i l)) ∙ r l k
    go (inr e) r = rw (e, ← length-concat n f) (get_or-append-add (concat (tabulate n f)) (f n) j d)

-- A list is the table of its elements.
pub map-tabulate : (f : ℕ → List ℕ) (xs : List ℕ) → map f xs ≡ tabulate (length xs) (λ i. f (get_or xs i 0))
unfolding tabulate
map-tabulate f [] = refl
map-tabulate f (x ∷ xs) = ap (λ (l : List (List ℕ)). f x ∷ l) (map-tabulate f xs)
