-- compare(one, other) and first(one, other, number, order, shared): the lexicographic order of two trees' texts and the length of their longest common
-- prefix; `first` returns the tree that comes first. For any bytes, and for two trees that the check accepts, whoever made them, with the texts that fit
-- them.
use Rattle.std.specs.Prelude.{Result, Ok, Err}
use Rattle.std.specs.declared.cmp.Ordering.{Ordering}
use Rattle.std.specs.declared.cmp.Ordering.TheVariants.{Less, Equal, Greater}
use Rattle.refusals.specs.Refusals.{refusal_number}
use Rattle.refusals.specs.RefusalsLaws.{number-above}
use mathlib.Core.List.{List, [], ◌∷◌}
use mathlib.Core.Bool.{Bool, true, false, cond}
use mathlib.Core.Path.{◌≡◌, sym, ap, ◌∙◌, refl}
use mathlib.Core.Logic.{◌⊎◌, inl, inr}
use Prim.Native.Nat.{ℕ, zero, suc, ◌+◌, ◌≤◌, ◌<◌, min}
use native.Mathlib.Omega.{arith}
use contract.Lifetimes.{Lfts}
use denote.Ref.{MutBor}
use lib.ListN.{length}
use lib.Dec.{ltb}
use Rattle.text.specs.ListLaws.{lt-or-ge}
use Rattle.format.specs.Answers.{Answer, unless, byte_answer}
use Rattle.format.specs.Layout as at
use Rattle.format.specs.TreeReading.{links_ok, text_of, header_result}
use Rattle.format.specs.FittingText.{fits}
use Rattle.format.specs.CheckResultLaws.{accepted-header, accepted-links}
use Rattle.theory_paths.specs.PlaceBytes.{byte-broken}
use Rattle.theory_accepted.specs.AcceptedTrees.{one-text}
use Rattle.query_compare.proofs.Theorems as orders
use Rattle.query_compare.specs.OrderAnswers.{order_answer, by_lengths, compared_from, compare_answer}
use Rattle.query_compare.specs.TextOrder.{text_ordering, shared, outcome, first_of}
use Rattle.query_compare.specs.OrderLaws.{clash, flip, Upto, shared-itself}
use Rattle.theorems.specs.CallContracts.{Refusal}
use Rattle.theorems.specs.PublicFunctions.{compare_function, first_function}
use Rattle.theorems.proofs.CheckCall.{Check}
use Rattle.theorems.proofs.PublicCall.{Call, Borrowed, call}
use Rattle.theorems.proofs.RefusalNumbers.{OneOf, not-zero, of_left, of_right, header-one}
use Rattle.query_compare.proofs.compare.Met as compare-met
use Rattle.query_compare.proofs.first.Met as first-met
-- What the contracts allow: `Compare κs one other r`, and `CompareFirst`.
pub use Rattle.query_compare.proofs.Theorems.{Compare, CompareFirst}
-- The laws of the order of texts: at or before is a total order, the same only of equal texts; it goes by the first byte that differs, or by the
-- shorter end.
pub use Rattle.query_compare.specs.OrderLaws.{text-order, ordering-flip, ordering-refl, ordering-same, ordering-trans}
pub use Rattle.query_compare.specs.OrderLaws.{shared-is, shared-flip, ordered-by, empty-first}

abbrev pub compare_call : Call
compare_call = call compare_function compare-met.met (λ 𝓤 𝓛 mem run κs a. (tt, refl))

abbrev pub first_call : Call
first_call = call first_function first-met.met (λ 𝓤 𝓛 mem run κs a. (tt, refl))

-- The numbers with which a comparison is refused, for any bytes.

or-one : (n : ℕ) (s : Answer) → OneOf (14 ∷ 0 ∷ []) n → OneOf (14 ∷ 0 ∷ []) s.number → OneOf (14 ∷ 0 ∷ []) (unless n s).number
or-one zero s h k = k
or-one (suc q) s h k = h

cond-one : (b : Bool) (x y : Answer) → OneOf (14 ∷ 0 ∷ []) x.number → OneOf (14 ∷ 0 ∷ []) y.number → OneOf (14 ∷ 0 ∷ []) (cond b x y).number
cond-one true x y h k = h
cond-one false x y h k = k

place-one : (t : List ℕ) (p : ℕ) → header_result t ≡ 0 → p < at.text_length t → OneOf (14 ∷ 0 ∷ []) (byte_answer t p).number
place-one t p r low = go (lt-or-ge 0 (byte_answer t p).number)
  where
    go : (0 < (byte_answer t p).number) ⊎ ((byte_answer t p).number ≤ 0) → OneOf (14 ∷ 0 ∷ []) (byte_answer t p).number
    go (inl h) = inl (byte-broken t r p low (λ e. omega arith))
    go (inr h) = inr (inl (omega arith))

module _ (t u : List ℕ) where
  from_one : header_result t ≡ 0 → header_result u ≡ 0 → (more p : ℕ) → p + more ≤ min (at.text_length t) (at.text_length u)
      → OneOf (14 ∷ 0 ∷ []) (compared_from t u more p).number
  unfolding compared_from by_lengths
  from_one r s zero p h =
      cond-one (ltb (at.text_length t) (at.text_length u)) (order_answer Less p) _ (inr (inl refl))
      (cond-one (ltb (at.text_length u) (at.text_length t)) (order_answer Greater p) (order_answer Equal p) (inr (inl refl)) (inr (inl refl)))
  from_one r s (suc more) p h =
      let x = (byte_answer t p).value in
      let y = (byte_answer u p).value in
      or-one (byte_answer t p).number _ (place-one t p r (omega arith))
      (or-one (byte_answer u p).number _ (place-one u p s (omega arith))
      (cond-one (ltb x y) (order_answer Less p) _ (inr (inl refl))
      (cond-one (ltb y x) (order_answer Greater p) (compared_from t u more (p + 1)) (inr (inl refl)) (from_one r s more (p + 1) (omega arith)))))

  order-one : OneOf (5 ∷ 6 ∷ 7 ∷ 14 ∷ 0 ∷ []) (compare_answer t u).number
  unfolding compare_answer
  order-one = go (header_result t) (header_result u) refl refl
    where
      first : (n : ℕ) → 1 ≤ n → OneOf (5 ∷ 6 ∷ 7 ∷ 0 ∷ []) n → OneOf (5 ∷ 6 ∷ 7 ∷ 14 ∷ 0 ∷ []) n
      first n low h = of_left (5 ∷ 6 ∷ 7 ∷ []) (14 ∷ 0 ∷ []) n (not-zero (5 ∷ 6 ∷ 7 ∷ []) n low h)

      go : (n m : ℕ) → header_result t ≡ n → header_result u ≡ m
          → OneOf (5 ∷ 6 ∷ 7 ∷ 14 ∷ 0 ∷ []) (unless n (unless m (compared_from t u (min (at.text_length t) (at.text_length u)) 0))).number
      go (suc n) m e f = first (suc n) (omega arith) (rw e at (header-one t))
      go zero (suc m) e f = first (suc m) (omega arith) (rw f at (header-one u))
      go zero zero e f = of_right (5 ∷ 6 ∷ 7 ∷ []) (14 ∷ 0 ∷ []) _ (from_one e f (min (at.text_length t) (at.text_length u)) 0 (omega arith))

-- A refusal is 5, 6, 7 or 14.
pub order-numbers : (κs : Lfts 2) (t u : Borrowed) (q : Refusal) → Compare κs t u (Err q) → OneOf (5 ∷ 6 ∷ 7 ∷ 14 ∷ []) (refusal_number q)
order-numbers κs t u q a =
    let e : refusal_number q ≡ (compare_answer t.now u.now).number = ap (λ (s : Answer). s.number) a.answers in
    not-zero (5 ∷ 6 ∷ 7 ∷ 14 ∷ []) (refusal_number q) (number-above q) (rw e (order-one t.now u.now))

-- Trees that the check accepts.

-- The check accepts the tree t, and T is the text that fits it.
pub record CallHolds (t : Borrowed) (T : List ℕ) : Type 0 where
  pub lifetime : Lfts 1
  pub check : Check lifetime t (Ok tt)
  pub fitting : fits T t.now ≡ true

module _ (t : Borrowed) (T : List ℕ) (a : CallHolds t T) where
  passes : header_result t.now ≡ 0
  passes = accepted-header t.now (sym a.check)

  links : links_ok t.now ≡ true
  links = accepted-links t.now (sym a.check)

  text-is : text_of t.now ≡ T
  text-is = sym (one-text t.now passes links T a.fitting)

-- The figures that `first` leaves behind its references.
abbrev pub figures_in : MutBor ℕ → MutBor ℕ → MutBor ℕ → Answer
figures_in number order length = record { number = number.now; value = order.now; entered = length.now }

module _ (t u : Borrowed) (T U : List ℕ) (a : CallHolds t T) (b : CallHolds u U) where
  -- The lexicographic order of the texts, and the length of their longest common prefix.
  pub compare-of : (κs : Lfts 2) (r : Result (Ordering × ℕ) Refusal) → Compare κs t u r → r ≡ outcome (text_ordering T U) (shared T U)
  compare-of κs r c = rw (text-is t T a, text-is u U b) at (orders.compare-texts t u (passes t T a) (passes u U b) (links t T a) (links u U b) κs r c)

  -- `first` returns the reference, pointer and bytes, of the tree whose text comes first (for equal texts the first), with the figures of the comparison
  pub first-of : (κs : Lfts 4) (number order length number' order' length' : MutBor ℕ) (r : Borrowed)
      → CompareFirst κs t u number order length number' order' length' r
      → (r ≡ first_of (text_ordering T U) t u)
      × (figures_in number' order' length' ≡ order_answer (text_ordering T U) (shared T U))
  first-of κs number order length number' order' length' r c =
      rw (text-is t T a, text-is u U b) at
      (orders.first-texts t u (passes t T a) (passes u U b) (links t T a) (links u U b) κs number order length number' order' length' r c)

-- The result depends on the texts alone: two other trees of the same two texts, of any settings and layouts, give the same.
module _ (t u t' u' : Borrowed) (T U : List ℕ) (a : CallHolds t T) (b : CallHolds u U) (a' : CallHolds t' T) (b' : CallHolds u' U) where
  pub texts-alone : (κs κs' : Lfts 2) (r r' : Result (Ordering × ℕ) Refusal) → Compare κs t u r → Compare κs' t' u' r' → r ≡ r'
  texts-alone κs κs' r r' c c' = compare-of t u T U a b κs r c ∙ sym (compare-of t' u' T U a' b' κs' r' c')

  -- The same figures, and the tree of the same side.
  pub first_alone : (κs κs' : Lfts 4) (n o l n₁ o₁ l₁ n₂ o₂ l₂ n₃ o₃ l₃ : MutBor ℕ) (r r' : Borrowed)
      → CompareFirst κs t u n o l n₁ o₁ l₁ r → CompareFirst κs' t' u' n₂ o₂ l₂ n₃ o₃ l₃ r'
      → (figures_in n₁ o₁ l₁ ≡ figures_in n₃ o₃ l₃)
      × (((r ≡ t) × (r' ≡ t')) ⊎ ((r ≡ u) × (r' ≡ u')))
  first_alone κs κs' n o l n₁ o₁ l₁ n₂ o₂ l₂ n₃ o₃ l₃ r r' c c' =
      let z = first-of t u T U a b κs n o l n₁ o₁ l₁ r c in
      let z' = first-of t' u' T U a' b' κs' n₂ o₂ l₂ n₃ o₃ l₃ r' c' in
      (z.1 ∙ sym z'.1, side (text_ordering T U) z.0 z'.0)
    where
      side : (s : Ordering) → r ≡ first_of s t u → r' ≡ first_of s t' u' → ((r ≡ t) × (r' ≡ t')) ⊎ ((r ≡ u) × (r' ≡ u'))
      side Less e e' = inl (e, e')
      side Equal e e' = inl (e, e')
      side Greater e e' = inr (e, e')

-- It is a total order on the texts.

-- The first comes before the second, or both are equal.
abbrev pub AtOrBefore : Result (Ordering × ℕ) Refusal → Type 0
AtOrBefore (Ok (Less, n)) = Unit {0}
AtOrBefore (Ok (Equal, n)) = Unit {0}
AtOrBefore (Ok (Greater, n)) = ⊥
AtOrBefore (Err q) = ⊥

up-to : (s : Ordering) (n : ℕ) → AtOrBefore (outcome s n) → s ≡ Greater → ⊥
up-to Less n h e = clash Less Greater (λ z. omega arith) e
up-to Equal n h e = clash Equal Greater (λ z. omega arith) e
up-to Greater n h e = h

not_after : (s : Ordering) (n : ℕ) → (s ≡ Greater → ⊥) → AtOrBefore (outcome s n)
not_after Less n h = tt
not_after Equal n h = tt
not_after Greater n h = h refl

module _ (t u : Borrowed) (T U : List ℕ) (a : CallHolds t T) (b : CallHolds u U) (κs : Lfts 2) (r : Result (Ordering × ℕ) Refusal) (c : Compare κs t u r) where
  upto-of : AtOrBefore r → Upto T U
  upto-of h =
      let z : AtOrBefore (outcome (text_ordering T U) (shared T U)) = rw (compare-of t u T U a b κs r c) at h in
      up-to (text_ordering T U) (shared T U) z

  of-upto : Upto T U → AtOrBefore r
  of-upto h = rw (compare-of t u T U a b κs r c) (not_after (text_ordering T U) (shared T U) h)

-- What compare answers of any accepted trees t, u and v with the texts T, U and W.
pub record TotalOrderOfTrees : Type 0 where
  -- Trees of one text are the same, and only these.
  pub reflexive : (t u : Borrowed) (T : List ℕ) → CallHolds t T → CallHolds u T → (κs : Lfts 2) (r : Result (Ordering × ℕ) Refusal) → Compare κs t u r
      → r ≡ Ok (Equal, length T)
  pub antisymmetric : (t u : Borrowed) (T U : List ℕ) → CallHolds t T → CallHolds u U → (κs κs' : Lfts 2) (r r' : Result (Ordering × ℕ) Refusal)
      → Compare κs t u r → Compare κs' u t r' → AtOrBefore r → AtOrBefore r' → T ≡ U
  pub transitive : (t u v : Borrowed) (T U W : List ℕ) → CallHolds t T → CallHolds u U → CallHolds v W
      → (κs κs' κs'' : Lfts 2) (r r' r'' : Result (Ordering × ℕ) Refusal)
      → Compare κs t u r → Compare κs' u v r' → Compare κs'' t v r'' → AtOrBefore r → AtOrBefore r' → AtOrBefore r''
  pub total : (t u : Borrowed) (T U : List ℕ) → CallHolds t T → CallHolds u U → (κs κs' : Lfts 2) (r r' : Result (Ordering × ℕ) Refusal)
      → Compare κs t u r → Compare κs' u t r' → AtOrBefore r ⊎ AtOrBefore r'

pub tree-order : TotalOrderOfTrees
tree-order = record {
  reflexive = λ t u T a b κs r c. compare-of t u T T a b κs r c ∙ itself T;
  antisymmetric = λ t u T U a b κs κs' r r' c c' h h'. text-order.antisymmetric T U (upto-of t u T U a b κs r c h) (upto-of u t U T b a κs' r' c' h');
  transitive = λ t u v T U W a b d κs κs' κs'' r r' r'' c c' c'' h h'.
      of-upto t v T W a d κs'' r'' c'' (text-order.transitive T U W (upto-of t u T U a b κs r c h) (upto-of u v U W b d κs' r' c' h'));
  total = λ t u T U a b κs κs' r r' c c'. either t u T U a b κs κs' r r' c c' (text-order.total T U);
}
  where
    itself : (T : List ℕ) → outcome (text_ordering T T) (shared T T) ≡ Ok (Equal, length T)
    itself T = let e : text_ordering T T ≡ Equal = ordering-refl T in rw (e, shared-itself T)

    either : (t u : Borrowed) (T U : List ℕ) → CallHolds t T → CallHolds u U → (κs κs' : Lfts 2) (r r' : Result (Ordering × ℕ) Refusal)
        → Compare κs t u r → Compare κs' u t r' → Upto T U ⊎ Upto U T → AtOrBefore r ⊎ AtOrBefore r'
    either t u T U a b κs κs' r r' c c' (inl h) = inl (of-upto t u T U a b κs r c h)
    either t u T U a b κs κs' r r' c c' (inr h) = inr (of-upto u t U T b a κs' r' c' h)

-- The other way round before becomes after, and the shared beginning stays.
pub compare-flip : (t u : Borrowed) (T U : List ℕ) → CallHolds t T → CallHolds u U → (κs κs' : Lfts 2) (r r' : Result (Ordering × ℕ) Refusal)
    → Compare κs t u r → Compare κs' u t r' → (r ≡ outcome (text_ordering T U) (shared T U)) × (r' ≡ outcome (flip (text_ordering T U)) (shared T U))
compare-flip t u T U a b κs κs' r r' c c' =
    (compare-of t u T U a b κs r c, compare-of u t U T b a κs' r' c' ∙ rw (ordering-flip T U, shared-flip T U))
