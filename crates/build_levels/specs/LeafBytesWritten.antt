-- The leaf bytes, block by block.
use Rattle.std.specs.Prelude.{List, ◌≡◌, ℕ, suc, ◌+◌, ◌≤◌, length}
use Rattle.text.specs.Text.{sum_below}
use Rattle.format.specs.Layout.{Settings, header_length}
use Rattle.format.specs.Blocks.{tree_of}
use Rattle.theory_built.specs.Structure.{width_of}
use Rattle.theory_built.specs.Pairs.{offset}
use Rattle.build_records.specs.declared.level_written.Level.{Level}
use Rattle.build_records.specs.WritesOnlyTree.{AgreesOn}
use Rattle.build_records.specs.State.{LevelIs}

module _ (S : Settings) (T : List ℕ) where
  -- All records are written, and the leaf bytes before place `to`, which are those of the first i blocks of the last level.
  pub record LeafBytesUpTo (out : List ℕ) (level : Level) (to i : ℕ) : Type 0 where
    pub level_is : LevelIs S T level
    pub last : suc level.number ≡ S.levels
    pub room : length (tree_of S T) ≤ length out
    pub body : AgreesOn (tree_of S T) out header_length to
    pub to_is : to ≡ offset S T S.levels + sum_below i (width_of S T level.number)
