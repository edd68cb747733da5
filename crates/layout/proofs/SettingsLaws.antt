-- A list rises exactly if each neighbour is above the one before: a step of the loop that looks.
use mathlib.Core.List.{List, [], ◌∷◌}
use mathlib.Core.Bool.{true, false, ◌&&◌}
use mathlib.Core.Path.{◌≡◌, refl}
use Prim.Native.Nat.{ℕ, suc, ◌+◌, ◌-◌, ◌≤◌, ◌<◌}
use native.Mathlib.Omega.{arith}
use lib.ListN.{length, drop, get_or, length-drop}
use lib.Seq.{drop-cons}
use lib.Dec.{ltb}
use borrow.Author.Tests.{lt-ltb, le-ltb}
use Rattle.format.specs.Layout.{rising, rising_after}

-- A list of at most one element rises.
few : (l : List ℕ) → length l ≤ 1 → true ≡ rising l
unfolding rising rising_after
few [] h = refl
few (x ∷ []) h = refl
few (x ∷ y ∷ l) h = absurd (let z : ⊥ = omega arith in z)

module _ (s : List ℕ) (i : ℕ) (low : 1 ≤ i) where
  -- The two elements at i - 1 and i, and what follows.
  module _ (h : i < length s) where
    opened : rising (drop (i - 1) s) ≡ (ltb (get_or s (i - 1) 0) (get_or s i 0) && rising (drop i s))
    unfolding rising rising_after
    opened =
        let e : suc (i - 1) ≡ i = omega arith in
        let a : i - 1 < length s = omega arith in
        rw (drop-cons s (i - 1) 0 a, e, drop-cons s i 0 h)

    pub more : get_or s (i - 1) 0 < get_or s i 0 → rising (drop (i + 1 - 1) s) ≡ rising (drop (i - 1) s)
    more l =
        let e : i + 1 - 1 ≡ i = omega arith in
        rw (e, opened, lt-ltb _ _ l)

    pub fall : get_or s i 0 ≤ get_or s (i - 1) 0 → false ≡ rising (drop (i - 1) s)
    fall l = rw (opened, le-ltb _ _ l)

  pub done : length s ≤ i → true ≡ rising (drop (i - 1) s)
  done h = few (drop (i - 1) s) (rw length-drop (omega arith))
