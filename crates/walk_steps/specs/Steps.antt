-- The result of a step of a path, and its preconditions.
use Rattle.std.specs.Prelude.{List, Option, Some, None, Bool, true, cond, ◌&&◌, ◌≡◌, ℕ, ◌+◌, ◌<◌, ltb}
use Rattle.format.specs.Layout as at
use Rattle.format.specs.LayoutLaws.{Readable}
use Rattle.format.specs.TreeReading.{is_kept_block, pointing_block, target_block, target_place}
use Rattle.walk_steps.specs.declared.BlockKind.{BlockKind}
use Rattle.walk_steps.specs.declared.BlockKind.TheVariants.{Kept, Points, Off}
use Rattle.walk_steps.specs.declared.position.BlockPosition.{BlockPosition}

-- The block if a test holds, else none.
abbrev pub arriving : Bool → ℕ → ℕ → Option BlockPosition
arriving x i o = cond x (Some (record { block = record { 0 = i }; place = record { 0 = o } })) None

module _ (t : List ℕ) where
  -- The kind of block i of level l, reached at place o.
  unfoldable pub block_kind_at : ℕ → ℕ → ℕ → BlockKind
  block_kind_at l i o =
      cond (is_kept_block t l i) (Kept (record { 0 = i }) (record { 0 = o }))
      (cond (pointing_block t l i) (Points (record { 0 = i }) (record { 0 = o })) Off)

  -- Child i of level l, which contains place o of a kept block.
  unfoldable pub child_at : ℕ → ℕ → ℕ → Option BlockPosition
  child_at l i o = arriving (ltb i (at.level_count t l)) i o

  -- The kept block that place o of pointing block i of level l refers to.
  unfoldable pub resolved_target : ℕ → ℕ → ℕ → Option BlockPosition
  resolved_target l i o =
      arriving (ltb (l + 1) (at.settings t).levels && is_kept_block t l (target_block t l i o)) (target_block t l i o) (target_place t l i o)

  -- A level of a tree that passes questions 5 to 7, with the size of its records and its block length b.
  pub record OnLevel (size level b : ℕ) : Type 0 where
    pub facts : Readable t
    pub size_is : size ≡ at.record_size t
    pub level_in : level < (at.settings t).levels
    pub b_is : b ≡ at.full_length t level

  -- A block of that level.
  pub record InTable (size level b i : ℕ) : Type 0 where
    pub on : OnLevel size level b
    pub block_in : i < at.level_count t level

  -- A pointing block of that level, and a place in it.
  pub record Pointing (size level b i o : ℕ) : Type 0 where
    pub on : OnLevel size level b
    pub place-in : o < b
    pub points : pointing_block t level i ≡ true
