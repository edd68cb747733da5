-- The preconditions and results of the steps to the j-th occurrence.
use Rattle.std.specs.Prelude.{List, Option, Some, None, true, cond, ◌≡◌, ◌⊎◌, ℕ, ◌+◌, ◌-◌, ◌*◌, ◌≤◌, ◌<◌}
use Rattle.format.specs.Layout.{pieces, max_text}
use Rattle.format.specs.Layout as at
use Rattle.format.specs.TreeReading.{is_kept_block, pointing_block, check_result}
use Rattle.walk_steps.specs.Steps.{OnLevel}
use Rattle.theory_counts.specs.Finds.{Lands}
use Rattle.theory_counts.specs.Theorems as counts
use Rattle.format.specs.LayoutLaws.{Readable, header-facts}
use Rattle.format.specs.CheckResultLaws.{accepted-header, accepted-links}
use Rattle.theory_paths.specs.Links.{linked-facts}
use Rattle.query_select.specs.declared.seek.CountField.{CountField}
use Rattle.query_select.specs.declared.seek.Child.{Child}
use Rattle.query_select.specs.declared.seek.Target.{Target}
use Rattle.query_select.specs.declared.seek.Landing.{Landing}

-- The way on into a block: past the bytes before it and back by a gap, with one more block entered.
unfoldable pub entering : ℕ → ℕ → ℕ → ℕ
entering way forward back = way + 281474976710656 + forward - back

module _ (t : List ℕ) where
  -- A kept block of a level, and a pointing one.
  pub record KeptIn (size level b i : ℕ) : Type 0 where
    pub on : OnLevel t size level b
    pub kept : is_kept_block t level i ≡ true

  pub record PointsIn (size level b i : ℕ) : Type 0 where
    pub on : OnLevel t size level b
    pub points : pointing_block t level i ≡ true

  -- Some consecutive blocks of a level.
  pub record Siblings (field : CountField) (level first end : ℕ) : Type 0 where
    pub facts : Readable t
    pub size_is : field.size ≡ at.record_size t
    pub level_in : level < (at.settings t).levels
    pub number_in : field.number < at.counted_count t
    pub present : first < end
    pub end_in : end ≤ at.level_count t level

  -- Block r of them: the blocks from the first up to r, included, have a `before` below j.
  pub record Passed (c level first end j r : ℕ) : Type 0 where
    pub low : first ≤ r
    pub high : r < end
    pub passed : (i : ℕ) → first < i → i ≤ r → at.before t level i c < j

  -- The last sibling whose `before` is below j.
  pub record LastBefore (c level first end j r : ℕ) : Type 0 where
    pub low : first ≤ r
    pub high : r < end
    pub passed : (i : ℕ) → first < i → i ≤ r → at.before t level i c < j
    pub next : r + 1 < end → j ≤ at.before t level (r + 1) c

  -- The child of block i that is chosen for j: its number x, where it starts in the block, and what is left of j.
  pub record Chosen (c level i below j : ℕ) (x o rest : ℕ) : Type 0 where
    pub link_low : at.link t level i ≤ x
    pub within : x - at.link t level i < pieces (at.block_length_at t level i) below
    pub in_table : x < at.level_count t (level + 1)
    pub place_is : o ≡ (x - at.link t level i) * below
    pub place_low : o ≤ max_text
    pub before_low : at.before t (level + 1) x c < j
    pub rest_is : rest ≡ j - at.before t (level + 1) x c
    pub next : x - at.link t level i + 1 < pieces (at.block_length_at t level i) below → j ≤ at.before t (level + 1) (x + 1) c

  -- The child is kept or it points; on an accepted tree there is one.
  pub record ChildWith (c level i below j : ℕ) (r : Option Child) : Type 0 where
    pub chosen : (x : Child) → r ≡ Some x → Chosen c level i below j x.block.0 x.start.0 x.rest
    pub off : r ≡ None → check_result t ≡ 0 → ⊥

  -- The target of pointing block i that contains the j-th occurrence: the first with j + skip, or the second with the rest.
  pub record Aimed (c level i b j : ℕ) (x forward rest : ℕ) : Type 0 where
    pub kept : is_kept_block t level x ≡ true
    pub rest_low : 1 ≤ rest
    pub rest_high : rest ≤ j + 4294967295
    pub forward_low : forward ≤ b
    pub either : ((x ≡ at.link t level i) × (forward ≡ 0) × (rest ≡ j + at.skip t level i c) × (rest ≤ at.inside t level (at.link t level i) c))
        ⊎ ((x ≡ at.link t level i + 1) × (forward ≡ b) × (at.inside t level (at.link t level i) c < j + at.skip t level i c)
        × (rest ≡ j + at.skip t level i c - at.inside t level (at.link t level i) c))

  -- A linked block, if it is kept.
  unfoldable pub target_at : ℕ → ℕ → ℕ → ℕ → Option Target
  target_at level i forward rest =
      cond (is_kept_block t level i) (Some (record { block = record { 0 = i }; forward = record { 0 = forward }; rest = rest })) None

  pub record TargetWith (c level i b j : ℕ) (r : Option Target) : Type 0 where
    pub kept : (x : Target) → r ≡ Some x → Aimed c level i b j x.block.0 x.forward.0 x.rest
    pub off : r ≡ None → check_result t ≡ 0 → j ≤ at.inside t level i c → ⊥

  -- A level, the number of a counted byte, the number j of the occurrence in a block, and the way to that block, with at most `blocks` blocks entered.
  pub record Seeking (field : CountField) (level b j way blocks : ℕ) : Type 0 where
    pub on : OnLevel t field.size level b
    pub number_in : field.number < at.counted_count t
    pub low : 1 ≤ j
    pub few : j ≤ (blocks + 1) * 4294967295
    pub near : way ≤ (blocks + 64) * 562949953421312

  -- On an accepted tree the j-th occurrence in block i is at a place of the block, and the path from the block to it enters some blocks: both are added to
  -- the way.
  pub record Landed (v : check_result t ≡ 0) (c : ℕ) (hc : c < at.counted_count t) (level i j way r : ℕ) : Type 0 where
    pub place : ℕ
    pub entered : ℕ
    pub is : r ≡ way + entered * 281474976710656 + place
    pub lands : Lands t (header-facts t (accepted-header t v)) (linked-facts t (accepted-links t v)) (counts.levels t v) c hc level i j place entered

  pub record FoundIn (c level i j way r : ℕ) : Type 0 where
    pub right : (v : check_result t ≡ 0) (hc : c < at.counted_count t) → j ≤ at.inside t level i c → Landed v c hc level i j way r

  -- A kept block that block i hands its j-th byte to, what is left of j there, and the way to it: what is found from there on is found in block i.
  pub record HandedTo (field : CountField) (level b i j way : ℕ) (x rest further : ℕ) : Type 0 where
    pub kept : KeptIn field.size level b x
    pub seeks : Seeking field level b rest further (2 * level + 1)
    pub found : (r : ℕ) → FoundIn field.number level x rest further r → FoundIn field.number level i j way r

  pub record HandsOn (field : CountField) (level b i j way : ℕ) (r : Option Landing) : Type 0 where
    pub to : (x : Landing) → r ≡ Some x → HandedTo field level b i j way x.block.0 x.rest x.way
    pub off : r ≡ None → check_result t ≡ 0 → j ≤ at.inside t level i field.number → ⊥
