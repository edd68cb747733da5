-- Which text fits a tree: its leaf bytes and its pointing blocks are in the text where the tree has them.
-- docs/FORMAT.md: "The text that a tree represents".
use Rattle.std.specs.Prelude.{List, Bool, not, ◌&&◌, ◌||◌, ℕ, ◌+◌, length}
use Rattle.std.proofs.Math.Dec.{eqb}
use Rattle.text.specs.Text.{tabulate, all_below, same_list, substring}
use Rattle.format.specs.Layout as at
use Rattle.format.specs.TreeReading.{last_level}

module _ (T t : List ℕ) where
  -- Block i's bytes in the text are its leaf bytes if it is on the last level, and those of its occurrence if it points (kind 1).
  unfoldable pub block_fits : ℕ → ℕ → Bool
  unfolding last_level at.block_length_at at.start at.link at.gap at.is_pointing
  block_fits l i =
      let bytes = substring T (at.start t l i) (at.block_length_at t l i) in
      let leaves = tabulate (at.block_length_at t l i) (λ o. at.leaf_byte t (at.link t l i + o)) in
      let pointed_to = substring T (at.start t l (at.link t l i) + at.gap t l i) (at.block_length_at t l i) in
      (not (eqb l (last_level t)) || same_list bytes leaves) && (not (at.is_pointing t l i) || same_list bytes pointed_to)

  unfoldable pub fits : Bool
  unfolding at.text_length at.settings at.level_count
  fits =
      eqb (length T) (at.text_length t) && all_below (at.settings t).levels (λ l. all_below (at.level_count t l) (block_fits l))
