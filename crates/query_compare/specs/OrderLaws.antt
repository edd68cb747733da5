-- The order of texts is a total order, and it is the one by the first byte that differs.
use Rattle.std.specs.Prelude.{List, [], ◌∷◌, cond, ◌≡◌, refl, ◌⊎◌, ℕ, zero, suc, ◌+◌, ◌≤◌, ◌<◌, length, get_or, ltb}
use Rattle.std.proofs.Common.{sym, ap, ◌∙◌, inl, inr, arith, add-one}
use borrow.Author.Tests.{lt-ltb, le-ltb, eq-eqb, ne_eqb}
use Rattle.text.specs.ListLaws.{lt-or-ge}
use Rattle.std.specs.declared.cmp.Ordering.{Ordering}
use Rattle.std.specs.declared.cmp.Ordering.TheVariants.{Less, Equal, Greater}
use Rattle.query_compare.specs.TextOrder.{text_ordering, shared}

-- One byte of each.

-- Below, the same, or above.
pub data Which (x y : ℕ) : Type 0 where
  below : x < y → Which x y
  equal : x ≡ y → Which x y
  above : y < x → Which x y

pub which : (x y : ℕ) → Which x y
which x y = go (lt-or-ge x y) (lt-or-ge y x)
  where
    go : (x < y) ⊎ (y ≤ x) → (y < x) ⊎ (x ≤ y) → Which x y
    go (inl h) k = below h
    go (inr h) (inl k) = above k
    go (inr h) (inr k) = equal (omega arith)

module _ (x y : ℕ) (T U : List ℕ) where
  pub ordering-below : x < y → text_ordering (x ∷ T) (y ∷ U) ≡ Less
  unfolding text_ordering
  ordering-below h = rw (lt-ltb x y h)

  pub ordering-above : y < x → text_ordering (x ∷ T) (y ∷ U) ≡ Greater
  unfolding text_ordering
  ordering-above h = rw (le-ltb x y (omega arith), lt-ltb y x h)

  pub ordering-equal : x ≡ y → text_ordering (x ∷ T) (y ∷ U) ≡ text_ordering T U
  unfolding text_ordering
  ordering-equal e = rw (e, le-ltb y y (omega arith))

  pub shared-equal : x ≡ y → shared (x ∷ T) (y ∷ U) ≡ shared T U + 1
  unfolding shared
  shared-equal e = rw (eq-eqb x y e)

  pub shared-other : (x ≡ y → ⊥) → shared (x ∷ T) (y ∷ U) ≡ 0
  unfolding shared
  shared-other e = rw (ne_eqb x y e)

-- The three outcomes differ.

abbrev number : Ordering → ℕ
number Less = 0
number Equal = 1
number Greater = 2

pub clash {ℓ} : {A : Type ℓ} (s r : Ordering) → (number s ≡ number r → ⊥) → s ≡ r → A
clash s r n e = absurd (n (ap number e))

abbrev pub flip : Ordering → Ordering
flip Less = Greater
flip Equal = Equal
flip Greater = Less

-- The other way round the outcome is turned.
pub ordering-flip : (T U : List ℕ) → text_ordering U T ≡ flip (text_ordering T U)
unfolding text_ordering
ordering-flip [] [] = refl
ordering-flip [] (y ∷ U) = refl
ordering-flip (x ∷ T) [] = refl
ordering-flip (x ∷ T) (y ∷ U) = go (which x y) (ordering-flip T U)
  where
    go : Which x y → text_ordering U T ≡ flip (text_ordering T U) → text_ordering (y ∷ U) (x ∷ T) ≡ flip (text_ordering (x ∷ T) (y ∷ U))
    go (below h) r = ordering-above y x U T h ∙ ap flip (sym (ordering-below x y T U h))
    go (equal e) r = ordering-equal y x U T (sym e) ∙ r ∙ ap flip (sym (ordering-equal x y T U e))
    go (above h) r = ordering-below y x U T h ∙ ap flip (sym (ordering-above x y T U h))

-- A text compares as same with itself.
pub ordering-refl : (T : List ℕ) → text_ordering T T ≡ Equal
unfolding text_ordering
ordering-refl [] = refl
ordering-refl (x ∷ T) = ordering-equal x x T T refl ∙ ordering-refl T

-- Only equal texts compare as same.
pub ordering-same : (T U : List ℕ) → text_ordering T U ≡ Equal → T ≡ U
unfolding text_ordering
ordering-same [] [] e = refl
ordering-same [] (y ∷ U) e = clash Less Equal (λ z. omega arith) e
ordering-same (x ∷ T) [] e = clash Greater Equal (λ z. omega arith) e
ordering-same (x ∷ T) (y ∷ U) e = go (which x y) (ordering-same T U)
  where
    go : Which x y → (text_ordering T U ≡ Equal → T ≡ U) → x ∷ T ≡ y ∷ U
    go (below h) r = clash Less Equal (λ z. omega arith) (sym (ordering-below x y T U h) ∙ e)
    go (equal z) r = rw (z, r (sym (ordering-equal x y T U z) ∙ e))
    go (above h) r = clash Greater Equal (λ z. omega arith) (sym (ordering-above x y T U h) ∙ e)

-- The order is transitive.
pub ordering-trans : (A B C : List ℕ) → text_ordering A B ≡ Less → text_ordering B C ≡ Less → text_ordering A C ≡ Less
unfolding text_ordering
ordering-trans [] [] C e f = clash Equal Less (λ z. omega arith) e
ordering-trans [] (y ∷ B) [] e f = clash Greater Less (λ z. omega arith) f
ordering-trans [] (y ∷ B) (z ∷ C) e f = refl
ordering-trans (x ∷ A) [] C e f = clash Greater Less (λ z. omega arith) e
ordering-trans (x ∷ A) (y ∷ B) [] e f = clash Greater Less (λ z. omega arith) f
ordering-trans (x ∷ A) (y ∷ B) (z ∷ C) e f = go (which x y) (which y z) (ordering-trans A B C)
  where
    go : Which x y → Which y z → (text_ordering A B ≡ Less → text_ordering B C ≡ Less → text_ordering A C ≡ Less) → text_ordering (x ∷ A) (z ∷ C) ≡ Less
    go (below h) (below k) r = ordering-below x z A C (omega arith)
    go (below h) (equal k) r = ordering-below x z A C (omega arith)
    go (equal h) (below k) r = ordering-below x z A C (omega arith)
    go (equal h) (equal k) r = ordering-equal x z A C (h ∙ k) ∙ r (sym (ordering-equal x y A B h) ∙ e) (sym (ordering-equal y z B C k) ∙ f)
    go (above h) w r = clash Greater Less (λ v. omega arith) (sym (ordering-above x y A B h) ∙ e)
    go (below h) (above k) r = clash Greater Less (λ v. omega arith) (sym (ordering-above y z B C k) ∙ f)
    go (equal h) (above k) r = clash Greater Less (λ v. omega arith) (sym (ordering-above y z B C k) ∙ f)

-- The empty text comes before every other.
pub empty-first : (T : List ℕ) → (T ≡ [] → ⊥) → text_ordering [] T ≡ Less
unfolding text_ordering
empty-first [] n = absurd (n refl)
empty-first (y ∷ T) n = refl

-- The total order: before or same.

abbrev pub Upto : List ℕ → List ℕ → Type 0
Upto T U = text_ordering T U ≡ Greater → ⊥

pub record TotalOrder (R : List ℕ → List ℕ → Type 0) : Type 0 where
  pub reflexive : (T : List ℕ) → R T T
  pub antisymmetric : (T U : List ℕ) → R T U → R U T → T ≡ U
  pub transitive : (A B C : List ℕ) → R A B → R B C → R A C
  pub total : (T U : List ℕ) → R T U ⊎ R U T

module _ (T U : List ℕ) where
  -- At or before is before or the same.
  upto : (s : Ordering) → text_ordering T U ≡ s → Upto T U → (text_ordering T U ≡ Less) ⊎ (T ≡ U)
  upto Less e n = inl e
  upto Equal e n = inr (ordering-same T U e)
  upto Greater e n = absurd (n e)

pub text-order : TotalOrder Upto
text-order = record {
  reflexive = λ T e. clash Equal Greater (λ z. omega arith) (sym (ordering-refl T) ∙ e);
  antisymmetric = λ T U a b. anti T U (upto T U (text_ordering T U) refl a) b;
  transitive = λ A B C a b. trans A B C (upto A B (text_ordering A B) refl a) (upto B C (text_ordering B C) refl b);
  total = λ T U. either T U (text_ordering T U) refl;
}
  where
    anti : (T U : List ℕ) → (text_ordering T U ≡ Less) ⊎ (T ≡ U) → Upto U T → T ≡ U
    anti T U (inl e) b = absurd (b (ordering-flip T U ∙ ap flip e))
    anti T U (inr e) b = e

    trans : (A B C : List ℕ) → (text_ordering A B ≡ Less) ⊎ (A ≡ B) → (text_ordering B C ≡ Less) ⊎ (B ≡ C) → text_ordering A C ≡ Greater → ⊥
    trans A B C (inl e) (inl f) z = clash Less Greater (λ v. omega arith) (sym (ordering-trans A B C e f) ∙ z)
    trans A B C (inl e) (inr f) z = clash Less Greater (λ v. omega arith) (sym e ∙ rw (← f) at z)
    trans A B C (inr e) (inl f) z = clash Less Greater (λ v. omega arith) (sym f ∙ rw e at z)
    trans A B C (inr e) (inr f) z = clash Equal Greater (λ v. omega arith) (sym (ordering-refl C) ∙ rw (e ∙ f) at z)

    either : (T U : List ℕ) (s : Ordering) → text_ordering T U ≡ s → Upto T U ⊎ Upto U T
    either T U Less e = inl (λ z. clash Less Greater (λ v. omega arith) (sym e ∙ z))
    either T U Equal e = inl (λ z. clash Equal Greater (λ v. omega arith) (sym e ∙ z))
    either T U Greater e = inr (λ z. clash Less Greater (λ v. omega arith) (sym (ordering-flip T U ∙ ap flip e) ∙ z))

-- The longest common prefix: its bytes are equal, and those after it are not.
pub record Beginning (T U : List ℕ) (n : ℕ) : Type 0 where
  pub in_one : n ≤ length T
  pub in_other : n ≤ length U
  pub agree : (x : ℕ) → x < n → get_or T x 0 ≡ get_or U x 0
  pub differ : n < length T → n < length U → get_or T n 0 ≡ get_or U n 0 → ⊥

none-shared : (T U : List ℕ) → (0 < length T → 0 < length U → get_or T 0 0 ≡ get_or U 0 0 → ⊥) → Beginning T U 0
none-shared T U n = record { in_one = omega arith; in_other = omega arith; agree = λ x h. absurd (let z : ⊥ = omega arith in z); differ = n }

pub shared-is : (T U : List ℕ) → Beginning T U (shared T U)
unfolding shared
shared-is [] U = none-shared [] U (λ h. absurd (let z : ⊥ = omega arith in z))
shared-is (x ∷ T) [] = none-shared (x ∷ T) [] (λ h k. absurd (let z : ⊥ = omega arith in z))
shared-is (x ∷ T) (y ∷ U) = go (which x y) (shared-is T U)
  where
    none : (x ≡ y → ⊥) → Beginning (x ∷ T) (y ∷ U) (shared (x ∷ T) (y ∷ U))
    none other = rw (shared-other x y T U other) (none-shared (x ∷ T) (y ∷ U) (λ h k. other))

    go : Which x y → Beginning T U (shared T U) → Beginning (x ∷ T) (y ∷ U) (shared (x ∷ T) (y ∷ U))
    go (below h) r = none (λ e. omega arith)
    go (above h) r = none (λ e. omega arith)
    go (equal e) r = rw (shared-equal x y T U e, add-one (shared T U)) (record {
      in_one = omega (arith, r.in_one);
      in_other = omega (arith, r.in_other);
      agree = λ z h. at_place z h;
      differ = λ h k. r.differ (omega arith) (omega arith);
    })
      where
        at_place : (z : ℕ) → z < suc (shared T U) → get_or (x ∷ T) z 0 ≡ get_or (y ∷ U) z 0
        at_place zero h = e
        at_place (suc z) h = r.agree z (omega arith)

-- The length of the longest common prefix is symmetric.
pub shared-flip : (T U : List ℕ) → shared U T ≡ shared T U
unfolding shared
shared-flip [] [] = refl
shared-flip [] (y ∷ U) = refl
shared-flip (x ∷ T) [] = refl
shared-flip (x ∷ T) (y ∷ U) = go (which x y) (shared-flip T U)
  where
    go : Which x y → shared U T ≡ shared T U → shared (y ∷ U) (x ∷ T) ≡ shared (x ∷ T) (y ∷ U)
    go (below h) r = shared-other y x U T (λ e. omega arith) ∙ sym (shared-other x y T U (λ e. omega arith))
    go (above h) r = shared-other y x U T (λ e. omega arith) ∙ sym (shared-other x y T U (λ e. omega arith))
    go (equal e) r = shared-equal y x U T (sym e) ∙ ap (λ (n : ℕ). n + 1) r ∙ sym (shared-equal x y T U e)

-- A text shares all its bytes with itself.
pub shared-itself : (T : List ℕ) → shared T T ≡ length T
unfolding shared
shared-itself [] = refl
shared-itself (x ∷ T) = shared-equal x x T T refl ∙ add-one (shared T T) ∙ ap suc (shared-itself T)

-- The order is decided by the byte after the longest common prefix, or by the end of the shorter text.
pub record OrderedBy (T U : List ℕ) : Type 0 where
  -- At the first difference the smaller byte decides.
  pub by_byte : shared T U < length T → shared T U < length U → text_ordering T U ≡ cond (ltb (get_or T (shared T U) 0) (get_or U (shared T U) 0)) Less Greater
  -- A proper prefix comes first.
  pub by_end : length T ≤ shared T U → shared T U < length U → text_ordering T U ≡ Less
  pub by_other_end : shared T U < length T → length U ≤ shared T U → text_ordering T U ≡ Greater
  pub by_both : length T ≤ shared T U → length U ≤ shared T U → text_ordering T U ≡ Equal

pub ordered-by : (T U : List ℕ) → OrderedBy T U
unfolding text_ordering shared
ordered-by [] [] = record {
  by_byte = λ h. absurd (let z : ⊥ = omega arith in z);
  by_end = λ h k. absurd (let z : ⊥ = omega arith in z);
  by_other_end = λ h. absurd (let z : ⊥ = omega arith in z);
  by_both = λ h k. refl;
}
ordered-by [] (y ∷ U) = record {
  by_byte = λ h. absurd (let z : ⊥ = omega arith in z);
  by_end = λ h k. refl;
  by_other_end = λ h. absurd (let z : ⊥ = omega arith in z);
  by_both = λ h k. absurd (let z : ⊥ = omega arith in z);
}
ordered-by (x ∷ T) [] = record {
  by_byte = λ h k. absurd (let z : ⊥ = omega arith in z);
  by_end = λ h. absurd (let z : ⊥ = omega arith in z);
  by_other_end = λ h k. refl;
  by_both = λ h. absurd (let z : ⊥ = omega arith in z);
}
ordered-by (x ∷ T) (y ∷ U) = go (which x y) (ordered-by T U)
  where
    none : (s : Ordering) → text_ordering (x ∷ T) (y ∷ U) ≡ s → s ≡ cond (ltb x y) Less Greater → (x ≡ y → ⊥) → OrderedBy (x ∷ T) (y ∷ U)
    none s e f other =
        let z : shared (x ∷ T) (y ∷ U) ≡ 0 = shared-other x y T U other in record {
          by_byte = λ h k. rw z (e ∙ f);
          by_end = λ h. absurd (let w : ⊥ = omega arith in w);
          by_other_end = λ h k. absurd (let w : ⊥ = omega arith in w);
          by_both = λ h. absurd (let w : ⊥ = omega arith in w);
        }

    go : Which x y → OrderedBy T U → OrderedBy (x ∷ T) (y ∷ U)
    go (below h) r = none Less (ordering-below x y T U h) (rw (lt-ltb x y h)) (λ e. omega arith)
    go (above h) r = none Greater (ordering-above x y T U h) (rw (le-ltb x y (omega arith))) (λ e. omega arith)
    go (equal e) r =
        let z : shared (x ∷ T) (y ∷ U) ≡ suc (shared T U) = shared-equal x y T U e ∙ add-one (shared T U) in
        let s = ordering-equal x y T U e in record {
          by_byte = λ h k. rw z (s ∙ r.by_byte (omega arith) (omega arith));
          by_end = λ h k. s ∙ r.by_end (omega arith) (omega arith);
          by_other_end = λ h k. s ∙ r.by_other_end (omega arith) (omega arith);
          by_both = λ h k. s ∙ r.by_both (omega arith) (omega arith);
        }
