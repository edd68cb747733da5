-- The search, a place at a time.
use mathlib.Core.List.{List}
use mathlib.Core.Bool.{Bool, true, false}
use mathlib.Core.Path.{◌≡◌, sym, ap, ◌∙◌}
use Prim.Native.Nat.{ℕ, suc, ◌+◌, ◌-◌, ◌≤◌, ◌<◌}
use native.Mathlib.Omega.{arith}
use native.Mathlib.Nat.{sub-zero}
use Rattle.text.specs.Text.{same_list, substring, first_from, leftmost}
use Rattle.text.specs.ListLaws.{ne-same_list}
use Rattle.search.specs.FingerValues.{finger}

-- Bytes with different fingerprints differ.
pub differ : (b q : ℕ) (s t : List ℕ) (h k : ℕ) → h ≡ finger b q s → k ≡ finger b q t → (h ≡ k → ⊥) → same_list s t ≡ false
differ b q s t h k eh ek n = ne-same_list s t (λ e. n (eh ∙ ap (finger b q) e ∙ sym ek))

-- The search from place p on.
unfoldable pub ahead : List ℕ → ℕ → ℕ → ℕ → ℕ
ahead T at n p = first_from T at n (at - p) p

pub ahead-start : (T : List ℕ) (at n : ℕ) → ahead T at n 0 ≡ leftmost T at n
unfolding ahead leftmost
ahead-start T at n = rw (sub-zero at)

-- A place from which the search gives the result of the whole search, and whether the bytes occur there.
module _ (T : List ℕ) (at n p : ℕ) (whole : ahead T at n p ≡ leftmost T at n) where
  module _ (r : Bool) (is : r ≡ same_list (substring T p n) (substring T at n)) where
    pub ahead-hit : r ≡ true → p < at → p ≡ leftmost T at n
    unfolding ahead first_from
    ahead-hit e l =
        let s : at - p ≡ suc (at - (p + 1)) = omega arith in
        rw (s, first_from, sym is ∙ e) at whole

    pub ahead-miss : r ≡ false → p < at → ahead T at n (p + 1) ≡ leftmost T at n
    unfolding ahead first_from
    ahead-miss e l =
        let s : at - p ≡ suc (at - (p + 1)) = omega arith in
        rw (s, first_from, sym is ∙ e) at whole

  pub ahead-end : at ≤ p → p ≡ leftmost T at n
  unfolding ahead first_from
  ahead-end l =
      let s : at - p ≡ 0 = omega arith in
      rw (s, first_from) at whole
