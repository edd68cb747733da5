-- The preconditions of the check of counts at a block: the tree passes questions 5 to 8, and the block is in its table.
use Rattle.std.specs.Prelude.{List, true, ◌≡◌, ℕ, ◌<◌}
use Rattle.format.specs.Layout as at
use Rattle.format.specs.TreeReading.{links_ok}
use Rattle.format.specs.LayoutLaws.{Readable}
use Rattle.theory_counts.specs.LevelTrue.{Level}
use Rattle.layout.specs.declared.header.Header.{Header}
use Rattle.layout.specs.HeaderFields.{HeaderOf}

module _ (t : List ℕ) (h : Header) where
  -- The tree passes questions 5 to 8, and this is its header.
  pub record Linking : Type 0 where
    pub header : HeaderOf t h
    pub links : links_ok t ≡ true

-- The counts of the levels below are right for the text.
abbrev pub TrueBelow : List ℕ → ℕ → Type 0
TrueBelow t level = (m : ℕ) → level < m → m < (at.settings t).levels → Level t m

module _ (t : List ℕ) (size : ℕ) where
  -- The tree passes questions 5 to 8, and its records have `size` bytes.
  pub record Sound : Type 0 where
    pub facts : Readable t
    pub size_is : size ≡ at.record_size t
    pub links : links_ok t ≡ true

  -- A block of one of its levels, and the number of a counted byte.
  pub record InTable (level i c : ℕ) : Type 0 where
    pub tree : Sound
    pub level_in : level < (at.settings t).levels
    pub block_in : i < at.level_count t level
    pub number_in : c < at.counted_count t

  -- A place of the block.
  pub record InBlock (level i o c : ℕ) : Type 0 where
    pub table : InTable level i c
    pub place-in : o < at.block_length_at t level i

  -- A place of a kept block.
  pub record KeptPlace (level i o : ℕ) : Type 0 where
    pub tree : Sound
    pub block_in : i < at.level_count t level
    pub kept : at.is_kept t level i ≡ true
    pub place-in : o < at.block_length_at t level i

  -- The block is kept, and the counts of the levels below are right.
  pub record InKept (level i o c : ℕ) : Type 0 where
    pub block : InBlock level i o c
    pub kept : at.is_kept t level i ≡ true
    pub below : TrueBelow t level
