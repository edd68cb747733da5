-- Parents in the built tree: each block below level 0 is a child of a kept block, whose start is the multiple of its block length at or
-- below the child's start.
use Rattle.std.specs.Prelude.{List, ◌≡◌, ℕ, suc, ◌+◌, ◌*◌, ◌<◌, length}
use Rattle.std.proofs.Common.{ap, arith}
use Rattle.std.proofs.Math.Arith.{digits_div}
use Rattle.text.specs.Text.{sum_below}
use Rattle.format.specs.Layout.{Settings}
use Rattle.theory_built.specs.Gather.{Placed, placed}
use Rattle.theory_built.specs.LevelBlocks.{child-inside}
use Rattle.theory_built.specs.BlockSizes.{Taken}
use Rattle.theory_built.specs.Structure.{size, count, start, kept_at, width_of, level_at, cut_at, count-below, start-below}
use Rattle.theory_built.specs.BuiltRecords.{parent_of}

module _ (S : Settings) (T : List ℕ) (h : Taken S T) (l : ℕ) (up : suc l < S.levels) where
  -- Block x of the level below is child `place` of block `part`.
  pub parent : (x : ℕ) → x < count S T (suc l) → Placed (count S T l) (width_of S T l) x
  parent x xl = placed (count S T l) (width_of S T l) x (rw (count-below S T h l up) at xl)

  module _ (i j : ℕ) (il : i < count S T l) (jl : j < width_of S T l i) where
    inside : j * size S T (suc l) < size S T l
    inside = omega (
      arith,
      child-inside (length T) (size S T l) (count S T l) (start S T l) (kept_at S T l) (width_of S T l) (size S T (suc l)) (count S T (suc l)) (start S T (suc l))
          (level_at S T h l (omega arith)) (cut_at S T h l up) i j jl,
    )

    pub parent-start : parent_of S T (suc l) (start S T (suc l) (sum_below i (width_of S T l) + j)) ≡ start S T l i
    unfolding parent_of
    parent-start =
        let k = (level_at S T h l (omega arith)).whole i il in
        rw (start-below S T h l i j up il jl, k.1) (ap (λ (x : ℕ). x * size S T l) (digits_div k.0 inside))
