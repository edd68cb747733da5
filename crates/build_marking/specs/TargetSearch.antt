-- The precondition and the result of the search for the block that contains a place, over the starts in the records.
use Rattle.std.specs.Prelude.{List, cond, ℕ, ◌+◌, ◌*◌, ◌/◌, ◌≤◌, ◌<◌, eqb, length}
use Rattle.theory_built.specs.BlockSizes.{max_table}
use Rattle.format.specs.Layout.{Settings, max_text, max_leaf, max_counted, word_at}
use Rattle.build_records.specs.RecordPlaces.{record_place}

-- The start of the parent of a block that starts at s, if the blocks of the level above have `above` bytes.
abbrev pub parent_answer : ℕ → ℕ → ℕ → ℕ
parent_answer number above s = cond (eqb number 0) 0 (s / above * above)

module _ (out : List ℕ) (table count : ℕ) (S : Settings) where
  -- The start in the record of block i.
  abbrev pub start_in : ℕ → ℕ
  start_in i = word_at out (record_place table i S)

  -- The records of the level are in the buffer, and their starts ascend.
  pub record Sorted : Type 0 where
    pub counted_few : length S.counted ≤ max_counted
    pub table_few : table ≤ max_table
    pub leaf_few : S.leaf ≤ max_leaf
    pub count_few : count ≤ max_text
    pub fits : (i : ℕ) → i < count → record_place table i S + 4 ≤ length out
    pub rises : (i j : ℕ) → i < j → j < count → start_in i < start_in j

  -- Block `low` starts at or before p; block `high` and those after it start after p.
  pub record Between (p low high : ℕ) : Type 0 where
    pub some_left : low < high
    pub within : high ≤ count
    pub from : start_in low ≤ p
    pub after : (j : ℕ) → high ≤ j → j < count → p < start_in j
