-- The count walk: from the fields read to the result.
use mathlib.Core.List.{List}
use mathlib.Core.Bool.{true, false}
use mathlib.Core.Logic.{◌⊎◌, inl, inr}
use mathlib.Core.Path.{◌≡◌, ◌∙◌}
use Prim.Native.Nat.{ℕ, suc, ◌+◌, ◌-◌, ◌/◌, ◌%◌, ◌≤◌, ◌<◌, ◌*◌}
use native.Mathlib.Omega.{arith}
use borrow.Author.Tests.{lt-ltb, le-ltb}
use lib.ListN.{length, get_or}
use Rattle.text.specs.Text.{substring, count_in}
use Rattle.text.specs.ListLaws.{bool_cases}
use Rattle.format.specs.Layout.{max_text, max_leaf, counted_at, link_field}
use Rattle.format.specs.Layout as at
use Rattle.format.specs.LayoutLaws.{Readable, full-pos, full-small, full-last}
use Rattle.theory_paths.specs.Links.{Linked, Pointing}
use Rattle.theory_paths.specs.BlockStarts.{len-small, Child, child}
use Rattle.theory_paths.specs.PlacesResolved.{target_first, target-second}
use Rattle.layout.specs.declared.place.BlockNumber.{BlockNumber}
use Rattle.layout.specs.declared.place.BlockPlace.{BlockPlace}
use Rattle.walk_steps.specs.declared.position.BlockPosition.{BlockPosition}
use Rattle.layout.specs.Record.{FieldIn, field_in}
use Rattle.walk_steps.specs.declared.DivRem.{DivRem}
use Rattle.theory_counts.specs.LevelTrue.{tally, Level}
use Rattle.theory_counts.specs.CountsExact.{up-to}
use Rattle.theory_counts.specs.CountedSubstrings.{leaves-end, tally-le}
use Rattle.theory_counts.specs.PointedCounts.{HolderCounts, holder-counts}
use Rattle.theory_counts.specs.CountsLocal.{holder_block, holder_place, holder_plus, holder_minus, in_leaf_bytes, up_to}
use Rattle.check_counts.specs.declared.prefix.PrefixTarget.{PrefixTarget}
use Rattle.check_counts.specs.CountsAsked.{Sound, InTable, InBlock, KeptPlace, InKept}
use Rattle.check_counts.specs.PrefixTargets.{target_of, step_of, child_of, last_sum}
use Rattle.check_counts.proofs.CountsHeader as facts

-- Handing a place on.

module _ (t : List ℕ) (size level b c : ℕ) (block : BlockNumber) (place : BlockPlace)
    (b_is : b ≡ at.full_length t level) (w : InBlock t size level block.0 place.0 c) (k : ℕ) (k_is : k ≡ at.kind t level block.0) where
  abbrev i : ℕ
  i = block.0

  abbrev o : ℕ
  o = place.0

  pub holder-of-kept : k ≡ 0 → record { block = block; place = place; plus = 0; minus = 0 } ≡ target_of t level i o c
  unfolding target_of holder_block holder_place holder_plus holder_minus
  holder-of-kept z = rw (facts.kept_of t level i k k_is z)

  module _ (ne : k ≡ 0 → ⊥) where
    un : at.is_kept t level i ≡ false
    un = facts.points-of t level i k k_is ne

    p : Pointing t level i
    p = (facts.linked t size w.table.tree).points level i w.table.level_in w.table.block_in un

    pub sum-small : (g : ℕ) → g ≡ at.gap t level i → g + o < (2 * max_text)
    sum-small g e = omega (arith, p.gap_small, w.place-in, facts.full-lt t size level i c w.table, facts.length-lt t size level i c w.table)

    module _ (j g sk : ℕ) (j-is : j ≡ at.link t level i) (g-is : g ≡ at.gap t level i) (sk-is : sk ≡ at.skip t level i c) where
      -- The block pointed to is in its table.
      pub target-there : InTable t size level j c
      target-there = record { tree = w.table.tree; level_in = w.table.level_in; block_in = rw j-is p.target_below; number_in = w.table.number_in }

      pub holder-first : g + o < b → record { block = record { 0 = j }; place = record { 0 = g + o }; plus = 0; minus = sk } ≡ target_of t level i o c
      unfolding target_of holder_block holder_place holder_plus holder_minus
      holder-first small =
          let less : at.gap t level i + o < at.full_length t level = omega arith in
          let e = target_first t level i o less in
          rw (un, e.0, e.1, lt-ltb _ _ less, j-is, g-is, sk-is)

      pub next-there : b ≤ g + o → j + 1 < at.level_count t level
      next-there large = rw j-is (p.next (omega (arith, w.place-in))).below

      pub holder-second : (x : ℕ) → x ≡ at.inside t level j c → b ≤ g + o
          → record { block = record { 0 = j + 1 }; place = record { 0 = g + o - b }; plus = x; minus = sk } ≡ target_of t level i o c
      unfolding target_of holder_block holder_place holder_plus holder_minus
      holder-second x x-is large =
          let more : at.full_length t level ≤ at.gap t level i + o = omega arith in
          let e = target-second t level i o more in
          rw (un, e.0, e.1, le-ltb _ _ more, x-is, j-is, g-is, sk-is, b_is)

-- Leaf bytes.

module _ (t : List ℕ) (size level i n c link : ℕ) (w : InTable t size level i c) (last : level + 1 ≡ (at.settings t).levels)
    (n-low : n ≤ at.block_length_at t level i) (link_is : link ≡ at.link t level i) where
  pub leaves-fit : (off : ℕ) → off ≡ at.leaf_offset t → off + link + n ≤ length t
  leaves-fit off off-is =
      let k = w.tree.facts in
      omega (arith, leaves-end t k (facts.linked t size w.tree) level i last w.block_in, k.size)

  -- A block of the last level has at most m bytes.
  pub leaves-few : n ≤ max_leaf
  leaves-few =
      let k = w.tree.facts in
      let e : level ≡ (at.settings t).levels - 1 = omega arith in
      let b : at.full_length t level ≡ (at.settings t).leaf = rw e (full-last t k) in
      omega (arith, len-small t level i, k.bounds.leaf_high)

  pub leaves_are : (off : ℕ) → off ≡ at.leaf_offset t
      → (r : ℕ) → r ≡ count_in (get_or t (counted_at + c) 0) (substring t (off + link) n) → r ≡ in_leaf_bytes t level i n c
  unfolding in_leaf_bytes
  leaves_are off off-is r e = e ∙ rw (facts.byte_is t c w.number_in w.tree.facts.bounds.counted_high, off-is, link_is)

-- A step to a child.

module _ (t : List ℕ) (size level b i o : ℕ) (b_is : b ≡ at.full_length t (level + 1)) (above : level + 1 < (at.settings t).levels)
    (w : KeptPlace t size level i o) where
  pub link-there : FieldIn t size level i link_field
  link-there = field_in t w.tree.facts size level i link_field w.tree.size_is (omega arith) w.block_in (omega arith)

  pub step-pos : 0 < b
  step-pos = rw b_is (full-pos t w.tree.facts (level + 1))

  module _ (j : ℕ) (part : DivRem) (j-is : j ≡ at.link t level i) (part_is : part ≡ record { blocks = o / b; place = record { 0 = o % b } }) where
    pub child-below : j + part.blocks < at.level_count t (level + 1)
    child-below =
        let q = child t w.tree.facts (facts.linked t size w.tree) level i o above w.block_in w.kept w.place-in in
        rw (part_is, j-is, b_is) q.below

    pub child-is : record { block = record { 0 = j + part.blocks }; place = part.place } ≡ child_of t level i o
    unfolding child_of
    child-is = rw (part_is, j-is, b_is)

-- In a child.

module _ (t : List ℕ) (l i o c x : ℕ) (x-is : x ≡ at.before t l i c) where
  pub last_is : (r : ℕ) → r ≡ in_leaf_bytes t l i (o + 1) c → x + r ≡ last_sum t l i o c
  unfolding last_sum
  last_is r r-is = rw (x-is, r-is)

  pub step_is : (on : PrefixTarget)
      → on ≡ target_of t l i o c → record { block = on.block; place = on.place; plus = x + on.plus; minus = on.minus } ≡ step_of t l i o c
  unfolding step_of target_of
  step_is on e = rw (x-is, e)

-- The walk.

module _ (t : List ℕ) (size level b c i o : ℕ) (b_is : b ≡ at.full_length t level) (w : InKept t size level i o c) where
  tree : Sound t size
  tree = w.block.table.tree

  k : Readable t
  k = tree.facts

  d : Linked t
  d = facts.linked t size tree

  pub walk-small : (r : ℕ) → r ≡ up_to t ((at.settings t).levels - 1 - level) level i o c → r ≤ max_text
  walk-small r e =
      omega (
        arith,
        up-to t k d ((at.settings t).levels - 1 - level)
            level i o c (omega (arith, w.block.table.level_in)) w.block.table.block_in w.kept w.block.place-in
            w.block.table.number_in w.below,
        tally-le t c (at.start t level i) (o + 1),
        w.block.place-in,
        facts.length-lt t size level i c w.block.table,
      )

  module _ (above : level + 1 < (at.settings t).levels) where
    pub below_is : (r : ℕ) → r ≡ (at.settings t).arity → b / r ≡ at.full_length t (level + 1)
    below_is r r-is = facts.below_is t size tree level b r b_is r-is above

    pub kept-place : KeptPlace t size level i o
    kept-place = record { tree = tree; block_in = w.block.table.block_in; kept = w.kept; place-in = w.block.place-in }

    abbrev down : ℕ
    down = at.link t level i + o / at.full_length t (level + 1)

    abbrev onward : ℕ
    onward = o % at.full_length t (level + 1)

    q : Child t k d level i o down onward
    q = child t k d level i o above w.block.table.block_in w.kept w.block.place-in

    next : HolderCounts t k d (level + 1) down onward c
    next = holder-counts t k d (level + 1) down onward c above q.below q.inside w.block.table.number_in (w.below (level + 1) (omega arith) above)

    below_true : (m : ℕ) → level + 1 < m → m < (at.settings t).levels → Level t m
    below_true m lt hm = w.below m (omega arith) hm

    module _ (s : BlockPosition) (s-is : s ≡ child_of t level i o) where
      pub child-there : InBlock t size (level + 1) s.block.0 s.place.0 c
      unfolding child_of
      child-there = rw s-is (record {
        table = record { tree = tree; level_in = above; block_in = q.below; number_in = w.block.table.number_in };
        place-in = q.inside;
      })

      -- No block of the last level points.
      last-kept : level + 1 + 1 ≡ (at.settings t).levels → at.is_kept t (level + 1) down ≡ true
      last-kept e = go (bool_cases (at.is_kept t (level + 1) down))
        where
          go : (at.is_kept t (level + 1) down ≡ true) ⊎ (at.is_kept t (level + 1) down ≡ false) → at.is_kept t (level + 1) down ≡ true
          go (inl y) = y
          go (inr n) = absurd (let z : ⊥ = omega (arith, (d.points (level + 1) down above q.below n).above) in z)

      pub walk-last : level + 1 + 1 ≡ (at.settings t).levels
          → (r : ℕ) → r ≡ last_sum t (level + 1) s.block.0 s.place.0 c → r ≡ up_to t ((at.settings t).levels - 1 - level) level i o c
      unfolding up_to last_sum child_of holder_block holder_place holder_plus holder_minus
      walk-last e r f =
          let z : (at.settings t).levels - 1 - level ≡ suc 0 = omega arith in
          rw s-is at f ∙ rw (z, last-kept e) (omega arith)

    module _ (s : BlockPosition) (s-is : s ≡ child_of t level i o) (on : PrefixTarget) (found : on ≡ step_of t (level + 1) s.block.0 s.place.0 c) where
      on-is : on ≡ step_of t (level + 1) down onward c
      unfolding child_of
      on-is = rw s-is at found

      pub walk-next : InKept t size (level + 1) on.block.0 on.place.0 c
      unfolding step_of
      walk-next = rw on-is (record {
        block = record {
          table = record { tree = tree; level_in = above; block_in = next.below; number_in = w.block.table.number_in };
          place-in = next.inside;
        };
        kept = next.kept;
        below = below_true;
      })

      module _ (rest : ℕ) (rest_is : rest ≡ up_to t ((at.settings t).levels - 1 - (level + 1)) (level + 1) on.block.0 on.place.0 c) where
        rest-tally : rest ≡ tally t c (at.start t (level + 1) (holder_block t (level + 1) down onward)) (holder_place t (level + 1) down onward + 1)
        unfolding step_of
        rest-tally =
            rw on-is at rest_is
            ∙ up-to t k d ((at.settings t).levels - 1 - (level + 1))
            (level + 1) (holder_block t (level + 1) down onward) (holder_place t (level + 1) down onward) c (omega arith)
            next.below next.kept next.inside w.block.table.number_in below_true

        pub rest-small : rest ≤ max_text
        rest-small =
            omega (
              arith,
              rest-tally,
              tally-le t c (at.start t (level + 1) (holder_block t (level + 1) down onward)) (holder_place t (level + 1) down onward + 1),
              next.inside,
              len-small t (level + 1) (holder_block t (level + 1) down onward),
              full-small t k (level + 1),
            )

        pub minus-low : on.minus ≤ on.plus + rest
        unfolding step_of
        minus-low = rw on-is (omega (arith, rest-tally, next.count))

        pub walk_is : on.plus + rest - on.minus ≡ up_to t ((at.settings t).levels - 1 - level) level i o c
        unfolding step_of up_to
        walk_is =
            let z : (at.settings t).levels - 1 - level ≡ suc ((at.settings t).levels - 1 - (level + 1)) = omega arith in
            let e = rw on-is at rest_is in
            rw (z, on-is, e)
