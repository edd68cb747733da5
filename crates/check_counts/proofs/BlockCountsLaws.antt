-- One block's counts, from what was read to whether they are right.
use mathlib.Core.List.{List}
use mathlib.Core.Bool.{Bool, true, false}
use mathlib.Core.Path.{◌≡◌, ◌∙◌}
use Prim.Native.Nat.{ℕ, zero, suc, ◌+◌, ◌-◌, ◌/◌, ◌%◌, ◌≤◌, ◌<◌}
use native.Mathlib.Omega.{arith}
use borrow.Author.Tests.{eq-eqb, ne_eqb}
use lib.Dec.{eqb}
use Rattle.format.specs.Layout as at
use Rattle.format.specs.TreeReading.{target_block, last_level}
use Rattle.format.specs.LayoutLaws.{Readable, full-pos}
use Rattle.theory_paths.specs.Links.{Linked, Pointing}
use Rattle.theory_paths.specs.BlockStarts.{start-below, len-pos, child, target-full}
use Rattle.theory_paths.specs.PlacesResolved.{target}
use Rattle.theory_counts.specs.CountsLocal.{up_length, before_local, in_leaf_bytes, last_child, holder_block, holder_place, up_to, kept_inside, kept_local, pointing_skip}
use Rattle.theory_counts.specs.CountsLocal.{pointing_inside, pointing_local, block_local}
use Rattle.theory_counts.specs.SiblingCounts.{neighbour}
use Rattle.check_counts.specs.declared.prefix.PrefixTarget.{PrefixTarget}
use Rattle.check_counts.specs.CountsAsked.{InTable, InBlock, InKept, TrueBelow}
use Rattle.check_counts.specs.PrefixTargets.{target_of}
use Rattle.check_counts.proofs.CountsHeader as facts

up_pos : (t : List ℕ) → Readable t → 0 < at.text_length t → (l : ℕ) → 0 < up_length t l
unfolding up_length
up_pos t k some zero = omega arith
up_pos t k some (suc l) = full-pos t k l

module _ (t : List ℕ) (size level i c : ℕ) (w : InTable t size level i c) where
  k : Readable t
  k = w.tree.facts

  d : Linked t
  d = facts.linked t size w.tree

  -- The same counted byte in another block of the level.
  other : (j : ℕ) → j < at.level_count t level → InTable t size level j c
  other j hj = record { tree = w.tree; level_in = w.level_in; block_in = hj; number_in = w.number_in }

  -- A block's length.

  pub length-pos : (r : ℕ) → r ≡ at.block_length_at t level i → 1 ≤ r
  length-pos r e = omega (arith, len-pos t k d level i w.level_in w.block_in)

  -- Before.

  module _ (up v x : ℕ) (up_is : up ≡ up_length t level) (v-is : v ≡ at.before t level i c) (x-is : x ≡ at.start t level i) where
    pub up_above : 0 < up
    up_above = rw up_is (up_pos t k (omega (arith, start-below t k d level i w.level_in w.block_in)) level)

    pub before-start : x % up ≡ 0 → eqb v 0 ≡ eqb (at.before t level i c) (before_local t level i c)
    unfolding before_local
    before-start z =
        let e : at.start t level i % up_length t level ≡ 0 = rw (← x-is, ← up_is) z in
        rw (v-is, eq-eqb _ 0 e)

    module _ (n : x % up ≡ 0 → ⊥) where
      apart : at.start t level i % up_length t level ≡ 0 → ⊥
      apart e = n (rw (x-is, up_is) e)

      pub left-low : 1 ≤ i
      left-low = (neighbour t k d level i w.level_in w.block_in apart).low

      pub left_there : InTable t size level (i - 1) c
      left_there = other (i - 1) (omega (arith, left-low, w.block_in))

      pub before-left : (a b : ℕ)
          → a ≡ at.before t level (i - 1) c → b ≡ at.inside t level (i - 1) c → eqb v (a + b) ≡ eqb (at.before t level i c) (before_local t level i c)
      unfolding before_local
      before-left a b a_is b_is = rw (v-is, a_is, b_is, ne_eqb _ 0 apart)

  -- A kept block's inside.

  pub inside-last : (x r : ℕ) → x ≡ at.block_length_at t level i → level + 1 ≡ (at.settings t).levels → r ≡ in_leaf_bytes t level i x c → r ≡ kept_inside t level i c
  unfolding kept_inside last_level
  inside-last x r x-is last e = let z : level ≡ (at.settings t).levels - 1 = omega arith in e ∙ rw (x-is, eq-eqb level ((at.settings t).levels - 1) z)

  module _ (kept : at.is_kept t level i ≡ true) (above : level + 1 < (at.settings t).levels) (b x j : ℕ) (b_is : b ≡ at.full_length t (level + 1))
      (x-is : x ≡ at.block_length_at t level i) (j-is : j ≡ at.link t level i) where
    pub below-pos : 0 < b
    below-pos = rw b_is (full-pos t k (level + 1))

    pub last-there : InTable t size (level + 1) (j + (x - 1) / b) c
    last-there =
        let q = child t k d level
        i (at.block_length_at t level i - 1) above w.block_in kept (omega (arith, len-pos t k d level i w.level_in w.block_in)) in
        record { tree = w.tree; level_in = above; block_in = rw (j-is, x-is, b_is) q.below; number_in = w.number_in }

    pub inside-above : (a y : ℕ)
        → a ≡ at.before t (level + 1) (j + (x - 1) / b) c → y ≡ at.inside t (level + 1) (j + (x - 1) / b) c → a + y ≡ kept_inside t level i c
    unfolding kept_inside last_child last_level
    inside-above a y a_is y-is = rw (ne_eqb level ((at.settings t).levels - 1) (λ e. omega arith), a_is, y-is, j-is, x-is, b_is)

  module _ (sk : ℕ) (sk-is : sk ≡ at.skip t level i c) where
    pub kept-skips : (sk ≡ 0 → ⊥) → false ≡ kept_local t level i c
    unfolding kept_local
    kept-skips n = rw (← sk-is, ne_eqb sk 0 n)

    pub kept_same : sk ≡ 0 → (x r : ℕ) → x ≡ at.inside t level i c → r ≡ kept_inside t level i c → eqb x r ≡ kept_local t level i c
    unfolding kept_local
    kept_same z x r x-is r-is = rw (← sk-is, z, x-is, r-is)

    -- A pointing block.

    pub pointing-skips : (r : ℕ) → r ≡ pointing_skip t level i c → (sk ≡ r → ⊥) → false ≡ pointing_local t level i c
    unfolding pointing_local
    pointing-skips r r-is n = rw (← sk-is, ← r-is, ne_eqb sk r n)

    pub pointing-same : (r : ℕ) → r ≡ pointing_skip t level i c → sk ≡ r → (x y : ℕ) → x ≡ at.inside t level i c → y ≡ pointing_inside t level i c
        → eqb (sk + x) y ≡ pointing_local t level i c
    unfolding pointing_local
    pointing-same r r-is e x y x-is y-is = rw (← sk-is, ← r-is, eq-eqb sk r e, x-is, y-is)

  module _ (un : at.is_kept t level i ≡ false) (below : TrueBelow t level) where
    p : Pointing t level i
    p = d.points level i w.level_in w.block_in un

    pub points-above : level + 1 < (at.settings t).levels
    points-above = p.above

    module _ (g : ℕ) (g-is : g ≡ at.gap t level i) where
      pub no_gap : g ≡ 0 → 0 ≡ pointing_skip t level i c
      unfolding pointing_skip
      no_gap z = rw (← g-is, z)

      module _ (n : g ≡ 0 → ⊥) (j : ℕ) (j-is : j ≡ at.link t level i) where
        pub gap-there : InKept t size level j (g - 1) c
        gap-there = rw j-is (record {
          block = record {
            table = other (at.link t level i) p.target_below;
            place-in = omega (arith, target-full t k d level i p w.block_in, p.gap_small, full-pos t k level);
          };
          kept = p.target_kept;
          below = below;
        })

        pub gap_is : (r : ℕ) → r ≡ up_to t ((at.settings t).levels - 1 - level) level j (g - 1) c → r ≡ pointing_skip t level i c
        unfolding pointing_skip last_level
        gap_is r e = e ∙ rw (← g-is, ne_eqb g 0 n, j-is)

    module _ (x : ℕ) (x-is : x ≡ at.block_length_at t level i) where
      pub end-there : InBlock t size level i (x - 1) c
      end-there = record { table = w; place-in = omega (arith, length-pos x x-is) }

      module _ (on : PrefixTarget) (on-is : on ≡ target_of t level i (x - 1) c) where
        pub holder-there : InKept t size level on.block.0 on.place.0 c
        unfolding target_of holder_block holder_place
        holder-there =
            let q = target t k d level i (x - 1) w.block_in p (omega (arith, length-pos x x-is)) in
            rw (on-is, un) (record {
              block = record { table = other (target_block t level i (x - 1)) q.below; place-in = q.inside };
              kept = q.kept;
              below = below;
            })

        pub holder-is : (r : ℕ) → r ≡ up_to t ((at.settings t).levels - 1 - level) level on.block.0 on.place.0 c
            → on.plus + r ≡ pointing_inside t level i c
        unfolding pointing_inside last_level target_of
        holder-is r e = rw (e, on-is, x-is)

  -- The whole block.

  pub block-before : eqb (at.before t level i c) (before_local t level i c) ≡ false → false ≡ block_local t level i c
  unfolding block_local
  block-before e = rw e

  module _ (e : eqb (at.before t level i c) (before_local t level i c) ≡ true) where
    pub block-kept : at.is_kept t level i ≡ true → (r : Bool) → r ≡ kept_local t level i c → r ≡ block_local t level i c
    unfolding block_local
    block-kept kept r f = rw (e, kept) f

    pub block-points : at.is_kept t level i ≡ false → (r : Bool) → r ≡ pointing_local t level i c → r ≡ block_local t level i c
    unfolding block_local
    block-points un r f = rw (e, un) f
