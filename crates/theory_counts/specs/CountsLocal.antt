-- Question 9 as the check looks at it: local equations between a record's counts and those of its neighbour, of its last child,
-- of the leaf bytes, or of the blocks that it points to.
use Rattle.std.specs.Prelude.{List, Bool, cond, ◌&&◌, ℕ, zero, suc, ◌+◌, ◌-◌, ◌/◌, ◌%◌, get_or, eqb, ltb}
use Rattle.text.specs.Text.{all_below, substring, count_in}
use Rattle.format.specs.Layout as at
use Rattle.format.specs.TreeReading.{target_block, target_place, last_level}

module _ (t : List ℕ) where
  -- counted byte number c
  unfoldable pub byte_of : ℕ → ℕ
  byte_of c = get_or (at.settings t).counted c 0

  -- How often counted byte number c occurs in the first x leaf bytes of block i of the last level.
  unfoldable pub in_leaf_bytes : ℕ → ℕ → ℕ → ℕ → ℕ
  in_leaf_bytes l i x c = count_in (byte_of c) (substring t (at.leaf_offset t + at.link t l i) x)

  -- The length of a full block of the level above; of the text above level 0.
  unfoldable pub up_length : ℕ → ℕ
  up_length zero = at.text_length t
  up_length (suc l) = at.full_length t l

  -- The count walk: place o of block i refers to a kept block of its level, which is i itself or a target of i. For a target the skip is subtracted, and the
  -- count inside of the first target is added if the second is entered.
  unfoldable pub holder_block : ℕ → ℕ → ℕ → ℕ
  holder_block l i o = cond (at.is_kept t l i) i (target_block t l i o)

  unfoldable pub holder_place : ℕ → ℕ → ℕ → ℕ
  holder_place l i o = cond (at.is_kept t l i) o (target_place t l i o)

  unfoldable pub holder_plus : ℕ → ℕ → ℕ → ℕ → ℕ
  holder_plus l i o c = cond (at.is_kept t l i) 0 (cond (ltb (at.gap t l i + o) (at.full_length t l)) 0 (at.inside t l (at.link t l i) c))

  unfoldable pub holder_minus : ℕ → ℕ → ℕ → ℕ
  holder_minus l i c = cond (at.is_kept t l i) 0 (at.skip t l i c)

  -- How often byte number c occurs in kept block i of level l up to place o, included; the block has `below` levels under it.
  unfoldable pub up_to : ℕ → ℕ → ℕ → ℕ → ℕ → ℕ
  up_to zero l i o c = in_leaf_bytes l i (o + 1) c
  up_to (suc below) l i o c =
      let j = at.link t l i + o / at.full_length t (l + 1) in
      let p = o % at.full_length t (l + 1) in
      at.before t (l + 1) j c + holder_plus (l + 1) j p c + up_to below (l + 1) (holder_block (l + 1) j p) (holder_place (l + 1) j p) c - holder_minus (l + 1) j c

  -- Before: 0 at the parent's start, else that of the left neighbour with its inside.
  unfoldable pub before_local : ℕ → ℕ → ℕ → ℕ
  before_local l i c = cond (eqb (at.start t l i % up_length l) 0) 0 (at.before t l (i - 1) c + at.inside t l (i - 1) c)

  -- A kept block's inside: that of its leaf bytes, or of its children, the last one's before and inside.
  unfoldable pub last_child : ℕ → ℕ → ℕ
  last_child l i = at.link t l i + (at.block_length_at t l i - 1) / at.full_length t (l + 1)

  unfoldable pub kept_inside : ℕ → ℕ → ℕ → ℕ
  kept_inside l i c =
      cond (eqb l (last_level t)) (in_leaf_bytes l i (at.block_length_at t l i) c)
      (at.before t (l + 1) (last_child l i) c + at.inside t (l + 1) (last_child l i) c)

  unfoldable pub kept_local : ℕ → ℕ → ℕ → Bool
  kept_local l i c = eqb (at.skip t l i c) 0 && eqb (at.inside t l i c) (kept_inside l i c)

  -- The skip of a pointing block is the count in the block pointed to before place gap. Skip plus inside is the count in gap + length bytes from the start
  -- of the block pointed to.
  unfoldable pub pointing_skip : ℕ → ℕ → ℕ → ℕ
  pointing_skip l i c = cond (eqb (at.gap t l i) 0) 0 (up_to (last_level t - l) l (at.link t l i) (at.gap t l i - 1) c)

  unfoldable pub pointing_inside : ℕ → ℕ → ℕ → ℕ
  pointing_inside l i c =
      let o = at.block_length_at t l i - 1 in
      holder_plus l i o c + up_to (last_level t - l) l (holder_block l i o) (holder_place l i o) c

  unfoldable pub pointing_local : ℕ → ℕ → ℕ → Bool
  pointing_local l i c = eqb (at.skip t l i c) (pointing_skip l i c) && eqb (at.skip t l i c + at.inside t l i c) (pointing_inside l i c)

  unfoldable pub block_local : ℕ → ℕ → ℕ → Bool
  block_local l i c = eqb (at.before t l i c) (before_local l i c) && cond (at.is_kept t l i) (kept_local l i c) (pointing_local l i c)

  unfoldable pub level_local : ℕ → Bool
  level_local l = all_below (at.level_count t l) (λ i. all_below (at.counted_count t) (block_local l i))

  unfoldable pub counts_local : Bool
  counts_local = all_below (at.settings t).levels level_local
