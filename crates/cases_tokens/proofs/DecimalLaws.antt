-- Laws of numbers in decimal, for the proofs of `decimal`.
use mathlib.Core.List.{List, [], ◌∷◌}
use mathlib.Core.Path.{◌≡◌, refl, sym, ◌∙◌}
use mathlib.Core.Bool.{Bool, true, false}
use Prim.Native.Nat.{ℕ, suc, ◌+◌, ◌-◌, ◌≤◌, ◌<◌}
use native.Mathlib.Numerals.{add-one}
use native.Mathlib.Omega.{arith}
use lib.ListN.{length, get_or, drop, drop_of_length-le}
use lib.Seq.{drop-cons}
use Rattle.text.specs.Text.{all_below}
use Rattle.text.specs.ListLaws.{all_below-not, and_both}
use Rattle.cases_tokens.specs.Parts.{token_of}
use Rattle.cases_tokens.specs.Decimals.{more_of, then, number_from, number_of, is_number, figures_right}
use Rattle.std.specs.Prelude.{Option, Some, None}
use Rattle.std.specs.Option.{is_some}

pub number-none : (w : List ℕ) → length w ≡ 0 → None ≡ number_of w
unfolding number_of
number-none [] h = refl
number-none (d ∷ w) h = let z : suc (length w) ≡ 0 = h in elim (clash z) [ ]
  where
    clash : suc (length w) ≡ 0 → ⊥
    clash z = omega arith

pub number-starts : (w : List ℕ) → (length w ≡ 0 → ⊥) → number_from w 0 ≡ number_of w
unfolding number_of
number-starts [] h = elim (h refl) [ ]
number-starts (d ∷ w) h = refl

module _ (w : List ℕ) (i v : ℕ) (x : Option ℕ) (h : i < length w) (e : x ≡ more_of v (get_or w i 0)) where
  open-number : then (number_from (drop (i + 1) w)) x ≡ number_from (drop i w) v
  unfolding number_from
  open-number = rw (e, add-one, drop-cons w i 0 h)

  pub number-stops : x ≡ None → None ≡ number_from (drop i w) v
  number-stops n = rw n at open-number

  pub number-goes : (u : ℕ) → x ≡ Some u → number_from (drop (i + 1) w) u ≡ number_from (drop i w) v
  number-goes u n = rw n at open-number

pub number-ends : (w : List ℕ) (i v : ℕ) → length w ≤ i → Some v ≡ number_from (drop i w) v
unfolding number_from
number-ends w i v h = rw (drop_of_length-le w h)

pub is-number : (line w : List ℕ) (k : ℕ) (b : Bool) (x : Option ℕ) → b ≡ is_some x → x ≡ number_of w → w ≡ token_of line k → b ≡ is_number line k
unfolding is_number
is-number line w k b x e a t = rw (e, a, t)

-- The tokens from `from` up to k are numbers.
pub record Numbers (line : List ℕ) (from k : ℕ) : Type 0 where
  pub are : all_below (k - from) (λ i. is_number line (from + i)) ≡ true

pub numbers-none : (line : List ℕ) (from : ℕ) → Numbers line from from
unfolding all_below
numbers-none line from = let z : from - from ≡ 0 = omega arith in record { are = rw z }

here : (line : List ℕ) (from k : ℕ) (b : Bool) → from ≤ k → b ≡ is_number line k → is_number line (from + (k - from)) ≡ b
here line from k b h e = let z : from + (k - from) ≡ k = omega arith in rw (z, e)

pub numbers_more : (line : List ℕ) (from k : ℕ) (b : Bool) → from ≤ k → Numbers line from k → b ≡ is_number line k → b ≡ true → Numbers line from (k + 1)
unfolding all_below
numbers_more line from k b h n e t =
    let z : k + 1 - from ≡ suc (k - from) = omega arith in
    record { are = rw z (and_both n.are (here line from k b h e ∙ t)) }

pub numbers-all : (line : List ℕ) (from to k : ℕ) → Numbers line from k → k - from ≡ to - from → true ≡ figures_right line from to
unfolding figures_right
numbers-all line from to k n e = sym (rw e at n.are)

pub numbers-not : (line : List ℕ) (from to k : ℕ) (b : Bool) → from ≤ k → k < to → b ≡ is_number line k → b ≡ false → false ≡ figures_right line from to
unfolding figures_right
numbers-not line from to k b h l e f =
    sym (all_below-not (to - from) (λ i. is_number line (from + i)) (k - from) (omega arith) (here line from k b h e ∙ f))
