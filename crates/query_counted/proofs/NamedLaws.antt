-- A byte looked for, one place after another.
use mathlib.Core.List.{List, [], ◌∷◌}
use mathlib.Core.Path.{◌≡◌, refl, sym, ap, ◌∙◌}
use Prim.Native.Nat.{ℕ, ◌+◌, ◌-◌, ◌≤◌, ◌<◌}
use native.Mathlib.Omega.{arith}
use lib.ListN.{length, drop, get_or}
use lib.Seq.{get_or-take, get_or-drop, take-take}
use Rattle.std.specs.List.{between, AllWithin, HoldsAt}
use Rattle.std.specs.Option.{MatchOption, unwrap_or}
use Rattle.std.proofs.Common.{Option}
use Rattle.std.proofs.lemmas.Iterator.{index_from_first}
use Rattle.std.proofs.lemmas.Bool.Decides.{nat_tests}
use Rattle.std.proofs.lemmas.List.Edits.{length-between}
use borrow.Author.Tests.{eq-eqb, ne_eqb}
use Rattle.format.specs.Layout.{max_counted, counted_at}
use Rattle.format.specs.Layout as at
use Rattle.format.specs.Answers.{index_of, number_of_byte}
use Rattle.query_counted.specs.Named.{Names}

-- The first place of a list that has a byte.
abbrev pub FirstOf : ℕ → List ℕ → Option ℕ → Type 0
FirstOf byte xs r = MatchOption r (AllWithin (λ x. x ≡ byte → ⊥) xs 0 (length xs))
    (λ i. (i < length xs) × HoldsAt (λ x. x ≡ byte) xs i × AllWithin (λ x. x ≡ byte → ⊥) xs 0 i)

index-first : (byte : ℕ) (xs : List ℕ) (r : Option ℕ) → FirstOf byte xs r → index_of byte xs ≡ unwrap_or r (length xs)
unfolding index_of
index-first byte xs r first =
    index_from_first (index_of byte) (λ x. x ≡ byte) (λ x. x ≡ byte → ⊥) refl (λ x xs e. rw (eq-eqb byte x (sym e)))
    (λ x xs e. rw (ne_eqb byte x (λ q. e (sym q)))) xs r first

index-most : (byte : ℕ) (xs : List ℕ) → index_of byte xs ≤ length xs
unfolding index_of
index-most byte [] = omega arith
index-most byte (x ∷ xs) = grind (arith, nat_tests, index-most byte xs)

module _ (t : List ℕ) (k i : ℕ) (n : Names t k) where
  pub name-at : i < k → get_or (at.settings t).counted i 0 ≡ get_or t (counted_at + i) 0
  unfolding at.settings
  name-at h =
      let a : i < at.counted_count t = omega (arith, n.k_is) in
      let b : i < max_counted = omega (arith, n.k_low) in
      rw (get_or-take, get_or-take, get_or-drop)

-- The counted bytes stand in the header, one after the other.
module _ (t : List ℕ) (k byte : ℕ) (n : Names t k) where
  names-are : (at.settings t).counted ≡ between counted_at (counted_at + k) t
  unfolding at.settings
  names-are = let e : counted_at + k - counted_at ≡ k = omega arith in rw (e, ← n.k_is) (take-take k max_counted (drop counted_at t) n.k_low)

  length-names : length (between counted_at (counted_at + k) t) ≡ k
  length-names = length-between t counted_at (counted_at + k) (omega (arith, n.long, n.k_low)) ∙ omega arith

  pub number-is : (r : Option ℕ) (m : ℕ) → m ≡ unwrap_or r k → FirstOf byte (between counted_at (counted_at + k) t) r → (m ≡ number_of_byte t byte) × (m ≤ k)
  unfolding number_of_byte
  number-is r m e first =
      let i : m ≡ index_of byte (between counted_at (counted_at + k) t) =
      e ∙ ap (unwrap_or r) (sym length-names) ∙ sym (index-first byte (between counted_at (counted_at + k) t) r first) in
      (rw names-are i, omega (arith, i, index-most byte (between counted_at (counted_at + k) t), length-names))
