-- A loop that tests the numbers from 0 on and stops at the first that fails computes `all_below`.
use mathlib.Core.Bool.{Bool, true, false}
use mathlib.Core.Path.{◌≡◌, refl, sym}
use Prim.Native.Nat.{ℕ, ◌+◌, ◌≤◌, ◌<◌}
use native.Mathlib.Omega.{arith}
use native.Mathlib.Numerals.{add-one}
use Rattle.text.specs.Text.{all_below}
use Rattle.text.specs.ListLaws.{and_both, all_below-not}

pub scan-none : (p : ℕ → Bool) → all_below 0 p ≡ true
unfolding all_below
scan-none p = refl

pub scan-more : (p : ℕ → Bool) (i : ℕ) → all_below i p ≡ true → p i ≡ true → all_below (i + 1) p ≡ true
unfolding all_below
scan-more p i h e = rw add-one (and_both h e)

pub scan-done : (p : ℕ → Bool) (n i : ℕ) → i ≤ n → n ≤ i → all_below i p ≡ true → true ≡ all_below n p
scan-done p n i a b h = let e : i ≡ n = omega arith in sym (rw e at h)

pub scan-fails : (p : ℕ → Bool) (n i : ℕ) → i < n → p i ≡ false → false ≡ all_below n p
scan-fails p n i l f = sym (all_below-not n p i l f)
