-- The table of a level.
use Rattle.std.specs.Prelude.{List, true, ◌≡◌, ℕ, suc, ◌+◌, ◌-◌, ◌*◌, ◌≤◌, ◌<◌, min, length}
use Rattle.text.specs.Text.{leftmost}
use Rattle.format.specs.Layout.{Settings, block_length, pieces}
use Rattle.format.specs.Blocks.{starts_at, pair_at}
use Rattle.theory_built.specs.Structure.{count, start}
use Rattle.theory_built.specs.BuiltTargets.{place_of}
use Rattle.build_records.specs.declared.level_written.Level.{Level}
use Rattle.scan_hash_table.specs.declared.Items.{Items}
use Rattle.scan_hash_table.specs.Entries.{item_place_in}
use Rattle.scan_pass.specs.Passes.{place_put}

-- The items of a level of a text of n bytes, with records of `step` bytes, and the number of chains that the table has room for.
abbrev pub items_of : ℕ → ℕ → Level → ℕ → Items
items_of n step level seed = record {
  records = level.table;
  step = step;
  size = level.size;
  items = level.count + level.count - 1;
  heads = min (4 * pieces n level.settings.leaf - 3 * (level.count + level.count - 1)) (16 * (level.count + level.count - 1));
  seed = seed;
}

module _ (S : Settings) (T : List ℕ) (l : ℕ) where
  -- The number of bytes of the pair of blocks i and i + 1, if they are one.
  abbrev pub pair_bytes : ℕ → ℕ
  pair_bytes i = min (block_length S l + block_length S l) (length T - start S T l i)

  -- The results in the table for the blocks and pairs of level l, which is above the last.
  pub record TableGivesMarking (W : List ℕ) : Type 0 where
    pub upper : suc l < S.levels
    pub room : 6 * count S T l ≤ length W + 3
    pub place : (i : ℕ) → i < count S T l → place_put (length T) W (2 * i) ≡ place_of S T l i
    pub equal_before : (i : ℕ) → i < count S T l → length T ≤ item_place_in W (2 * i) → item_place_in W (2 * i) < length T + 2 * i
    pub first : (i : ℕ) → i < count S T l → pair_at T (block_length S l) (starts_at S T l) i ≡ true → item_place_in W (2 * i + 1) ≡ start S T l i
        → leftmost T (start S T l i) (pair_bytes i) ≡ start S T l i
    pub again : (i : ℕ) → i < count S T l → pair_at T (block_length S l) (starts_at S T l) i ≡ true → (item_place_in W (2 * i + 1) ≡ start S T l i → ⊥)
        → leftmost T (start S T l i) (pair_bytes i) ≡ start S T l i → ⊥
