-- The block on the left of one that does not start with its parent: it has the same parent, and the two touch.
use mathlib.Core.List.{List}
use mathlib.Core.Path.{◌≡◌, refl, sym, ap, ◌∙◌}
use Prim.Native.Nat.{ℕ, zero, suc, ◌+◌, ◌-◌, ◌*◌, ◌≤◌, ◌<◌}
use native.Mathlib.Omega.{arith}
use native.Mathlib.Nat.{suc-mul, div-mul-le_self}
use Rattle.text.specs.Text.{sum_below, substring, count_in}
use Rattle.text.proofs.CountTheorems.{count_add}
use Rattle.format.specs.Layout.{Settings}
use Rattle.theory_built.specs.BlockSizes.{Taken}
use Rattle.theory_built.specs.Structure.{size, count, start, bytes_in, width_of, bytes_in-is, level_at, start-top, start-below}
use Rattle.theory_built.specs.Parents.{parent, parent-start}
use Rattle.theory_built.specs.BuiltRecords.{parent_of, before_of, inside_of}

-- Block j is to the left of block i, in the same parent.
pub record LeftOf (S : Settings) (T : List ℕ) (l i j : ℕ) : Type 0 where
  pub next : i ≡ suc j
  pub touch : start S T l i ≡ start S T l j + size S T l
  pub together : parent_of S T l (start S T l i) ≡ parent_of S T l (start S T l j)

module _ (S : Settings) (T : List ℕ) (h : Taken S T) where
  parent-le : (l s : ℕ) → parent_of S T l s ≤ s
  unfolding parent_of
  parent-le zero s = omega arith
  parent-le (suc l) s = div-mul-le_self s (size S T l)

  top_left : (i : ℕ) → i < count S T 0 → (start S T 0 i ≡ parent_of S T 0 (start S T 0 i) → ⊥) → (j : ℕ) × LeftOf S T 0 i j
  unfolding parent_of
  top_left zero il other = absurd (other (start-top S T h 0 il ∙ (let z : 0 * size S T 0 ≡ 0 = omega arith in z)))
  top_left (suc j) il other = (
    j,
    record {
      next = refl;
      touch = omega (arith, start-top S T h (suc j) il, start-top S T h j (omega arith), suc-mul j (size S T 0));
      together = refl;
    },
  )

  below_left : (l x : ℕ) (up : suc l < S.levels) → x < count S T (suc l) → (start S T (suc l) x ≡ parent_of S T (suc l) (start S T (suc l) x) → ⊥)
      → (i j : ℕ) → i < count S T l → j < width_of S T l i → x ≡ sum_below i (width_of S T l) + j → (y : ℕ) × LeftOf S T (suc l) x y
  below_left l x up xl other i zero il jl e =
      absurd (other (ap (start S T (suc l)) e ∙ start-below S T h l i 0 up il jl
      ∙ zero-part ∙ sym (ap (λ (y : ℕ). parent_of S T (suc l) (start S T (suc l) y)) e ∙ parent-start S T h l up i 0 il jl)))
    where
      zero-part : start S T l i + 0 * size S T (suc l) ≡ start S T l i
      zero-part = omega arith
  below_left l x up xl other i (suc j) il jl e =
      let jl' : j < width_of S T l i = omega arith in
      let f : x ≡ suc (sum_below i (width_of S T l) + j) = omega arith in (
        sum_below i (width_of S T l) + j,
        record {
          next = f;
          touch = ap (start S T (suc l)) e
              ∙ omega (arith, start-below S T h l i (suc j) up il jl, start-below S T h l i j up il jl', suc-mul j (size S T (suc l)));
          together = ap (λ (y : ℕ). parent_of S T (suc l) (start S T (suc l) y)) e
              ∙ parent-start S T h l up i (suc j) il jl ∙ sym (parent-start S T h l up i j il jl');
        },
      )

  pub left-of : (l i : ℕ) → l < S.levels → i < count S T l → (start S T l i ≡ parent_of S T l (start S T l i) → ⊥) → (j : ℕ) × LeftOf S T l i j
  left-of zero i e il other = top_left i il other
  left-of (suc l) i e il other =
      let p = parent S T h l e i il in
      below_left l i e il other p.part p.place p.part_lt p.place_lt p.is

  -- The count before a block is that before its left neighbour and in it.
  pub before-left : (l i j c : ℕ) → l < S.levels → i < count S T l → LeftOf S T l i j → before_of S T l i c ≡ before_of S T l j c + inside_of S T l j c
  unfolding before_of inside_of
  before-left l i j c e il left =
      let up : ℕ = parent_of S T l (start S T l j) in
      let le : up ≤ start S T l j = parent-le l (start S T l j) in
      let full : bytes_in S T l j ≡ size S T l = rw (bytes_in-is S T l j) (omega (arith, (level_at S T h l e).within i il, left.touch)) in
      let len : start S T l i - up ≡ start S T l j - up + bytes_in S T l j = omega (arith, left.touch) in
      let at : up + (start S T l j - up) ≡ start S T l j = omega arith in
      rw (left.together, len)
      (count_add c T up (start S T l j - up) (bytes_in S T l j)
      ∙ ap (λ (x : ℕ). count_in c (substring T up (start S T l j - up)) + count_in c (substring T x (bytes_in S T l j))) at)

  -- No block is to the left of one that starts with its parent.
  pub before-first : (l i c : ℕ) → start S T l i ≡ parent_of S T l (start S T l i) → before_of S T l i c ≡ 0
  unfolding before_of substring count_in
  before-first l i c e =
      let z : start S T l i - parent_of S T l (start S T l i) ≡ 0 = omega arith in
      rw z
