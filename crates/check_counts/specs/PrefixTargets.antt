-- The block that a place of a block refers to, and what is added and subtracted on the way, as the struct of the code.
use Rattle.std.specs.Prelude.{List, Bool, ℕ, ◌+◌, ◌/◌, ◌%◌}
use Rattle.text.specs.Text.{all_below}
use Rattle.format.specs.Layout as at
use Rattle.theory_counts.specs.CountsLocal.{holder_block, holder_place, holder_plus, holder_minus, in_leaf_bytes, block_local}
use Rattle.walk_steps.specs.declared.position.BlockPosition.{BlockPosition}
use Rattle.check_counts.specs.declared.prefix.PrefixTarget.{PrefixTarget}

module _ (t : List ℕ) where
  -- What block i adds and subtracts when place o refers to another block.
  unfoldable pub target_of : ℕ → ℕ → ℕ → ℕ → PrefixTarget
  target_of l i o c = record {
    block = record { 0 = holder_block t l i o };
    place = record { 0 = holder_place t l i o };
    plus = holder_plus t l i o c;
    minus = holder_minus t l i c;
  }

  -- The same for a child, with its count before.
  unfoldable pub step_of : ℕ → ℕ → ℕ → ℕ → PrefixTarget
  step_of l i o c = record {
    block = record { 0 = holder_block t l i o };
    place = record { 0 = holder_place t l i o };
    plus = at.before t l i c + holder_plus t l i o c;
    minus = holder_minus t l i c;
  }

  -- The child of kept block i that contains place o, and the place in it.
  unfoldable pub child_of : ℕ → ℕ → ℕ → BlockPosition
  child_of l i o = record {
    block = record { 0 = at.link t l i + o / at.full_length t (l + 1) };
    place = record { 0 = o % at.full_length t (l + 1) };
  }

  -- The count of the parent of block i of the last level up to place o of the block, included.
  unfoldable pub last_sum : ℕ → ℕ → ℕ → ℕ → ℕ
  last_sum l i o c = at.before t l i c + in_leaf_bytes t l i (o + 1) c

  -- The block length of the children, by that of the level.
  unfoldable pub child_length : ℕ → ℕ
  child_length l = at.full_length t l / (at.settings t).arity

  -- The counts of counted byte number c in all blocks of a level.
  unfoldable pub byte_local : ℕ → ℕ → Bool
  byte_local l c = all_below (at.level_count t l) (λ i. block_local t l i c)
