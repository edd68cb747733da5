-- The precondition of reading the records of a level.
use Rattle.std.specs.Prelude.{List, ◌≡◌, ℕ, ◌<◌, ◌+◌, Bool, eqb}
use Rattle.format.specs.Layout.{record_size, settings}
use Rattle.format.specs.LayoutLaws.{Readable}
use Rattle.format.specs.Layout as at
use Rattle.list_lines.specs.ListedLines.{max_figure}

module _ (t : List ℕ) where
  -- Block i of level l has kind k.
  abbrev pub has_kind : ℕ → ℕ → ℕ → Bool
  has_kind l k i = eqb (at.kind t l i) k

-- The most bytes of the line of a refused tree.
abbrev pub max_refused : ℕ
max_refused = 8 + max_figure

-- A level of a tree that passes questions 5 to 7.
pub record Level (t : List ℕ) (size level : ℕ) : Type 0 where
  pub header_read : Readable t
  pub size_is : size ≡ record_size t
  pub level_in : level < (settings t).levels
