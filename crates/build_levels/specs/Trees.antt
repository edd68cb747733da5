-- A tree while it is written, level by level.
use Rattle.std.specs.Prelude.{List, Option, Some, None, ◌≡◌, ◌⊎◌, ℕ, suc, ◌+◌, ◌-◌, ◌*◌, ◌/◌, ◌^◌, ◌≤◌, ◌<◌, length}
use Rattle.text.specs.Text.{sum_below}
use Rattle.format.specs.Layout.{Settings, pieces, count_at, header_length}
use Rattle.format.specs.Blocks.{tree_of}
use Rattle.theory_built.specs.Structure.{width_of}
use Rattle.theory_built.specs.Pairs.{offset}
use Rattle.layout.specs.declared.settings.Settings as code
use Rattle.build_records.specs.declared.level_written.Level.{Level}
use Rattle.build_records.specs.WritesOnlyTree.{WritesOnlyTree, AgreesOn}
use Rattle.build_records.specs.RecordPlaces.{record_place}
use Rattle.build_records.specs.State.{record_settings_of, LevelIs, RecordsUpTo}

-- Level 0 of a text of n bytes.
abbrev pub level_first_of : code.Settings → ℕ → Level
level_first_of s n = record {
  settings = s;
  number = 0;
  above = 1;
  size = s.leaf * s.arity ^ (s.levels - 1 - 0);
  below = s.leaf * s.arity ^ (s.levels - 1 - 0) / s.arity;
  count = pieces n (s.leaf * s.arity ^ (s.levels - 1 - 0));
  table = header_length;
}

-- The level below another, with its number of blocks and its table.
abbrev pub next_at : Level → ℕ → ℕ → Level
next_at level count table = record {
  settings = level.settings;
  number = level.number + 1;
  above = level.size;
  size = level.below;
  below = level.below / level.settings.arity;
  count = count;
  table = table;
}

-- The same with the table after that of the level above.
abbrev pub next_of : Level → ℕ → List ℕ → Level
next_of level count cs = next_at level count (record_place level.table level.count (record_settings_of level.settings cs))

module _ (S : Settings) (T : List ℕ) where
  -- Everything above a level is written, with the words of the levels above it in the header, and the starts of its blocks.
  pub record LevelReady (out : List ℕ) (level : Level) : Type 0 where
    pub level_is : LevelIs S T level
    pub filled : RecordsUpTo S T out level.number 0
    pub header : AgreesOn (tree_of S T) out 0 (count_at level.number)

  -- The records of a level are written too, with `total` blocks or leaf bytes below them.
  pub record LevelWritten (out : List ℕ) (level : Level) (total : ℕ) : Type 0 where
    pub level_is : LevelIs S T level
    pub room : offset S T (suc level.number) ≤ length out
    pub body : AgreesOn (tree_of S T) out header_length (offset S T (suc level.number))
    pub header : AgreesOn (tree_of S T) out 0 (count_at level.number)
    pub total_is : total ≡ sum_below level.count (width_of S T level.number)

  -- The records of a level were written, and only bytes of the tree.
  abbrev pub LevelDone : List ℕ → List ℕ → Level → ℕ → Type 0
  LevelDone before after level total = WritesOnlyTree (tree_of S T) before after × LevelWritten after level total

  -- A step to the level with this number: it is ready, or the tree does not fit.
  pub record StepIs (out : List ℕ) (s : code.Settings) (number : ℕ) (step : Option Level) : Type 0 where
    pub to : (next : Level) → step ≡ Some next → (next.settings ≡ s) × (next.number ≡ number) × LevelReady out next
    pub full : step ≡ None → length out < length (tree_of S T)

-- The buffer contains the whole tree, of r bytes; or the tree does not fit, and r is 0.
abbrev pub TreeComplete : List ℕ → List ℕ → ℕ → Type 0
TreeComplete D out r =
    ((r ≡ 0) × (length out < length D))
    ⊎ ((r ≡ length D) × (length D ≤ length out) × AgreesOn D out 0 (length D))
