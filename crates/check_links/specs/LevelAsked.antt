-- The preconditions on a level whose blocks are checked.
use Rattle.std.specs.Prelude.{List, Bool, cond, ◌&&◌, ◌≡◌, ℕ, ◌+◌, ◌*◌, ◌<◌, eqb, leb, ltb}
use Rattle.text.specs.Text.{all_below}
use Rattle.format.specs.Layout as at
use Rattle.format.specs.TreeReading.{last_level, count_below_right, block_right}
use Rattle.format.specs.LayoutLaws.{Readable}
use Rattle.check_links.specs.declared.level_read.Level.{Level}

-- The bytes of a full child; a last level block is cut into its leaf bytes.
unfoldable pub length_of_part : List ℕ → ℕ → ℕ
length_of_part t l = cond (eqb l (last_level t)) 1 (at.full_length t (l + 1))

-- The number of blocks of the next level, or of leaf bytes.
unfoldable pub room_below : List ℕ → ℕ → ℕ
room_below t l = cond (eqb l (last_level t)) (at.leaf_count t) (at.level_count t (l + 1))

-- A level of a tree that passes questions 5 to 7.
pub record LevelOf (t : List ℕ) (v : Level) : Type 0 where
  pub header_read : Readable t
  pub level_in : v.number < (at.settings t).levels
  pub size_is : v.size ≡ at.record_size t
  pub length_is : v.length ≡ at.text_length t
  pub last_is : v.last ≡ last_level t
  pub count_is : v.count ≡ at.level_count t v.number
  pub full_is : v.full ≡ at.full_length t v.number
  pub part_is : v.part ≡ length_of_part t v.number
  pub most_is : v.most ≡ at.pieces v.full v.part
  pub room_is : v.room ≡ room_below t v.number

-- Parts of question 8, as the code tests them.
module _ (t : List ℕ) where
  -- Block i of level 0 starts where it must.
  abbrev pub start_as_cut : ℕ → Bool
  start_as_cut i = eqb (at.start t 0 i) (i * at.full_length t 0)

  -- Child j of a block of level l starts where it must, if the block starts at `start` and its first child has the number `link`.
  abbrev pub child_as_cut : ℕ → ℕ → ℕ → ℕ → Bool
  child_as_cut l link start j = eqb (at.start t (l + 1) (link + j)) (start + j * at.full_length t (l + 1))

  -- The occurrence of len bytes at place g of block j is before `start`, and begins in a kept block.
  unfoldable pub is_target_right : ℕ → ℕ → ℕ → ℕ → ℕ → Bool
  is_target_right l j g len start = ltb j (at.level_count t l) && at.is_kept t l j && leb (at.start t l j + g + len) start

  -- The block after block j is kept and follows in the text.
  unfoldable pub next_right : ℕ → ℕ → Bool
  next_right l j = ltb (j + 1) (at.level_count t l) && at.is_kept t l (j + 1) && eqb (at.start t l (j + 1)) (at.start t l j + at.full_length t l)

  unfoldable pub level_right : ℕ → Bool
  level_right l = count_below_right t l && all_below (at.level_count t l) (block_right t l)
