-- The end of a path among the leaf bytes, and the blocks of the last level that continue it.
use Rattle.std.specs.Prelude.{List, Option, Some, None, true, ◌≡◌, ℕ, ◌+◌, ◌-◌, ◌/◌, ◌%◌, ◌≤◌, ◌<◌, length}
use Rattle.std.proofs.Math.Option.{some}
use Rattle.format.specs.Layout as at
use Rattle.format.specs.TreeReading.{is_kept_block}
use Rattle.format.specs.Answers.{refused, byte_answer, left_over}
use Rattle.walk_path.specs.Above.{Above, above_of}
use Rattle.walk_ranges.specs.declared.leaf_end.LeafEnd.{LeafEnd}

module _ (t : List ℕ) where
  abbrev pub last_level : ℕ
  last_level = (at.settings t).levels - 1

  -- r is a place in a kept block of the last level, with its leaf byte
  pub record EndsIn (r : LeafEnd) : Type 0 where
    pub kept : is_kept_block t last_level r.block.0 ≡ true
    pub place-in : r.place.0 < (at.settings t).leaf
    pub leaf_is : r.leaf ≡ at.link t last_level r.block.0 + r.place.0
    pub leaf-in : r.leaf < at.leaf_count t

  -- The path of place p ends at r.
  pub record LeafEndAt (p : ℕ) (r : LeafEnd) : Type 0 where
    pub ends_in : EndsIn r
    pub above : Above
    pub is : above_of t p ≡ some above
    pub block_is : r.block.0 ≡ above.block
    pub place_is : r.place.0 ≡ above.place
    pub left_is : r.left ≡ left_over t above.visits (at.text_length t - p)
    pub entered_is : r.entered ≡ length above.visits + 1

  -- The answer of `end_of`.
  abbrev pub LeafEndOf : ℕ → Option LeafEnd → Type 0
  LeafEndOf p (Some r) = LeafEndAt p r
  LeafEndOf p None = byte_answer t p ≡ refused 14

  -- The n places from r on are in kept blocks that follow each other, and so are their leaf bytes.
  pub record Joined (r : LeafEnd) (n : ℕ) : Type 0 where
    pub some_byte : 1 ≤ n
    pub kept : (x : ℕ) → x < n → is_kept_block t last_level (r.block.0 + (r.place.0 + x) / (at.settings t).leaf) ≡ true
    pub leaf : (x : ℕ) → x < n
        → at.link t last_level (r.block.0 + (r.place.0 + x) / (at.settings t).leaf) + (r.place.0 + x) % (at.settings t).leaf ≡ r.leaf + x
