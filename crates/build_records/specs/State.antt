-- The invariants while a level of the tree of T is written.
use Rattle.std.specs.Prelude.{List, ◌≡◌, ℕ, suc, ◌+◌, ◌*◌, ◌≤◌, ◌<◌, length}
use Rattle.text.specs.Text.{sum_below, substring, count_in}
use Rattle.format.specs.Layout.{Settings, block_length, header_length}
use Rattle.format.specs.Blocks.{tree_of, record_bytes}
use Rattle.layout.specs.declared.settings.Settings as code
use Rattle.theory_built.specs.BlockSizes.{Taken}
use Rattle.theory_built.specs.Structure.{count, start, bytes_in, width_of}
use Rattle.theory_built.specs.Pairs.{offset}
use Rattle.theory_built.specs.BuiltRecords.{parent_of, kind_of, link_of, gap_of, skip_of}
use Rattle.build_records.specs.declared.level_written.Level.{Level}
use Rattle.build_records.specs.declared.level_written.Substring.{Substring}
use Rattle.build_records.specs.declared.record_written.Block.{Block}
use Rattle.build_records.specs.WritesOnlyTree.{AgreesOn}

-- The settings in the code, with the caller's counted bytes.
abbrev pub record_settings_of : code.Settings → List ℕ → Settings
record_settings_of s cs = record { leaf = s.leaf; arity = s.arity; levels = s.levels; counted = cs }

module _ (S : Settings) (T : List ℕ) where
  -- The level in the code is that of the tree.
  pub record LevelIs (level : Level) : Type 0 where
    pub taken : Taken S T
    pub number_in : level.number < S.levels
    pub leaf_is : level.settings.leaf ≡ S.leaf
    pub above_low : 0 < level.above
    pub above_is : (k : ℕ) → level.number ≡ suc k → level.above ≡ block_length S k
    pub size_is : level.size ≡ block_length S level.number
    pub below_is : suc level.number < S.levels → level.below ≡ block_length S (suc level.number)
    pub count_is : level.count ≡ count S T level.number
    pub table_is : level.table ≡ offset S T level.number

  -- The offset of the record of block i of level l.
  abbrev pub place_at : ℕ → ℕ → ℕ
  place_at l i = offset S T l + i * record_bytes S

  -- The buffer has room for the records of level l and contains their starts, and everything before the record of block i is written.
  pub record RecordsUpTo (out : List ℕ) (l i : ℕ) : Type 0 where
    pub room : offset S T (suc l) ≤ length out
    pub body : AgreesOn (tree_of S T) out header_length (place_at l i)
    pub starts : (x : ℕ) → x < count S T l → AgreesOn (tree_of S T) out (place_at l x) (place_at l x + 4)

  -- The bytes of block i of level l, as the code reads them.
  pub record SubstringIs (l i : ℕ) (r : Substring) : Type 0 where
    pub start_is : r.start.0 ≡ start S T l i
    pub length_is : r.length ≡ bytes_in S T l i
    pub fits : r.start.0 + r.length ≤ length T

  -- The values of block i of level l whose record is written next.
  pub record BlockIs (l i : ℕ) (block : Block) : Type 0 where
    pub start_is : block.start.0 ≡ start S T l i
    pub length_is : block.length ≡ bytes_in S T l i
    pub parent_is : block.parent.0 ≡ parent_of S T l (start S T l i)
    pub kind_is : block.kind ≡ kind_of S T l i
    pub link_is : block.link.0 ≡ link_of S T l i
    pub gap_is : block.gap.0 ≡ gap_of S T l i
    pub skip_is : (c : ℕ) → count_in c (substring T block.from.0 block.gap.0) ≡ skip_of S T l i c
    pub skip_in : block.from.0 + block.gap.0 ≤ length T

  -- The record of block i of a level is written next.
  pub record Writing (out : List ℕ) (level : Level) (i : ℕ) (block : Block) : Type 0 where
    pub level_is : LevelIs level
    pub filled : RecordsUpTo out level.number i
    pub block_in : i < level.count
    pub block_is : BlockIs level.number i block

  -- Block i of a level is next in turn.
  pub record BlockNext (out : List ℕ) (level : Level) (i : ℕ) : Type 0 where
    pub level_is : LevelIs level
    pub filled : RecordsUpTo out level.number i
    pub block_in : i < level.count

  -- The buffer has the starts of blocks a to b of level l.
  pub record Started (out : List ℕ) (l a b : ℕ) : Type 0 where
    pub starts : (x : ℕ) → a ≤ x → x < b → AgreesOn (tree_of S T) out (place_at l x) (place_at l x + 4)

  -- The records of a level are written, there is room for those of the next, and the starts of the children of the first i blocks are written.
  pub record Below (out : List ℕ) (level next : Level) (i : ℕ) : Type 0 where
    pub level_is : LevelIs level
    pub next_is : LevelIs next
    pub follows : next.number ≡ suc level.number
    pub room : offset S T (suc (suc level.number)) ≤ length out
    pub body : AgreesOn (tree_of S T) out header_length (offset S T (suc level.number))
    pub finished : Started out (suc level.number) 0 (sum_below i (width_of S T level.number))
