-- The rule by which blocks are kept, as the facts from which it follows that first occurrences are in kept blocks.
use Rattle.std.specs.Prelude.{List, true, false, ◌||◌, ◌≡◌, refl, ◌⊎◌, length, get_or, ltb, eqb}
use Rattle.std.proofs.Common.{◌∙◌, inl, inr, arith}
use Prim.Native.Nat.{ℕ, zero, suc, ◌+◌, ◌-◌, ◌≤◌, ◌<◌, min}
use borrow.Author.Tests.{lt-ltb, ltb-true, eq-eqb, eqb-true}
use Rattle.text.specs.ListLaws.{and_both, and_left, and_right, or_left, or_right, not-eq-true, bool_cases, lt-or-ge}
use Rattle.text.specs.Text.{leftmost}
use Rattle.format.specs.Blocks.{start_of, pair_at, first_pair_at, kept_by_pairs}
use Rattle.text.specs.TextLaws.{leftmost-le, leftmost-same, leftmost-least, substring-at, substring-ext}
use Rattle.theory_built.specs.OccurrencesLand.{First, Pair, FirstPair, Marks}

-- The byte at each place of a text.
abbrev pub byte_at : List ℕ → ℕ → ℕ
byte_at T p = get_or T p 0

-- A leftmost occurrence is a first one.
pub first-leftmost : (T : List ℕ) (s len : ℕ) → s + len ≤ length T → First (byte_at T) (length T) (leftmost T s len) len
first-leftmost T s len fits = record {
  within = omega (arith, leftmost-le T s len);
  absent = λ q l same. leftmost-least T s len q l
      (substring-ext T T q (leftmost T s len) len (omega (arith, leftmost-le T s len)) (omega (arith, leftmost-le T s len)) same ∙ leftmost-same T s len);
}

leftmost-first : (T : List ℕ) (s len : ℕ) → First (byte_at T) (length T) s len → leftmost T s len ≡ s
leftmost-first T s len f = go (lt-or-ge (leftmost T s len) s)
  where
    go : (leftmost T s len < s) ⊎ (s ≤ leftmost T s len) → leftmost T s len ≡ s
    go (inl l) = absurd (f.absent (leftmost T s len) l (λ k h. substring-at T T (leftmost T s len) s len (leftmost-same T s len) k h))
    go (inr g) = omega (arith, leftmost-le T s len)

module _ (T : List ℕ) (b : ℕ) (starts : List ℕ) where
  abbrev PairHere : ℕ → Type 0
  PairHere i = Pair (byte_at T) (length T) b (length starts) (start_of T b starts) i

  pair_is : (i : ℕ) → PairHere i → pair_at T b starts i ≡ true
  unfolding pair_at
  pair_is i pr = and_both (lt-ltb _ _ pr.0) (eq-eqb _ _ pr.1)

  pair_of : (i : ℕ) → pair_at T b starts i ≡ true → PairHere i
  unfolding pair_at
  pair_of i y = (
    ltb-true _ _ (and_left _ _ y),
    eqb-true _ _ (and_right (ltb (suc i) (length starts)) (eqb (start_of T b starts (suc i)) (start_of T b starts i + b)) y),
  )

  not-pair : (i : ℕ) → (PairHere i → ⊥) → pair_at T b starts i ≡ false
  not-pair i un = go (bool_cases (pair_at T b starts i))
    where
      go : (pair_at T b starts i ≡ true) ⊎ (pair_at T b starts i ≡ false) → pair_at T b starts i ≡ false
      go (inl y) = absurd (un (pair_of i y))
      go (inr f) = f

  first-pair-is : (i : ℕ) → FirstPair (byte_at T) (length T) b (length starts) (start_of T b starts) i → first_pair_at T b starts i ≡ true
  unfolding first_pair_at
  first-pair-is i f = and_both (pair_is i f.0) (eq-eqb _ _ (leftmost-first T (start_of T b starts i) (min (b + b) (length T - start_of T b starts i)) f.1))

  kept-left : (i : ℕ) → first_pair_at T b starts i ≡ true → kept_by_pairs T b starts i ≡ true
  unfolding kept_by_pairs
  kept-left zero f = or_left _ f
  kept-left (suc h) f = or_left _ (or_right (first_pair_at T b starts h) f)

  kept-right : (i : ℕ) → first_pair_at T b starts i ≡ true → kept_by_pairs T b starts (suc i) ≡ true
  unfolding kept_by_pairs
  kept-right i f = or_left _ (or_left _ f)

  kept-alone : (i : ℕ) → ((h : ℕ) → i ≡ suc h → pair_at T b starts h ≡ false) → pair_at T b starts i ≡ false → kept_by_pairs T b starts i ≡ true
  unfolding kept_by_pairs
  kept-alone zero before here = or_right (first_pair_at T b starts 0) (not-eq-true here)
  kept-alone (suc h) before here =
      or_right (first_pair_at T b starts h || first_pair_at T b starts (suc h)) (and_both (not-eq-true (before h refl)) (not-eq-true here))

  pub marks : Marks (byte_at T) (length T) b (length starts) (start_of T b starts) (λ i. kept_by_pairs T b starts i ≡ true)
  marks = record {
    left = λ i f. kept-left i (first-pair-is i f);
    right = λ i f. kept-right i (first-pair-is i f);
    alone = λ i l before here. kept-alone i (λ h e. not-pair h (before h e)) (not-pair i here);
  }
