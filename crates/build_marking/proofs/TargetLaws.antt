-- The record of a block, kept or pointing: the values that the code finds are those of the tree.
use mathlib.Core.List.{List}
use mathlib.Core.Bool.{true, false}
use mathlib.Core.Path.{◌≡◌, refl, ap, ◌∙◌}
use Prim.Native.Nat.{ℕ, zero, suc, ◌+◌, ◌-◌, ◌≤◌, ◌<◌}
use native.Mathlib.Omega.{arith}
use lib.ListN.{length}
use lib.Dec.{leb}
use borrow.Author.Tests.{le-leb, lt-leb, ne_eqb}
use Rattle.text.specs.Text.{sum_below}
use Rattle.text.proofs.CountTheorems.{count_none}
use Rattle.format.specs.Layout.{word_at, Settings, block_length}
use Rattle.format.specs.Blocks.{target}
use Rattle.theory_built.specs.Descent.{count_below-upto}
use Rattle.theory_built.specs.LevelBlocks.{Level as InOrder, start-le}
use Rattle.theory_built.specs.Structure.{size, count, start, kept_at, width_of, level_at}
use Rattle.theory_built.specs.BuiltRecords.{parent_of, kind_of, link_of, gap_of, skip_of}
use Rattle.theory_built.specs.BuiltTargets.{place_of, target_of, PointsTo, points_to}
use Rattle.build_records.specs.declared.level_written.Level.{Level}
use Rattle.build_records.specs.declared.level_written.Substring.{Substring}
use Rattle.build_records.specs.declared.record_written.Block.{Block}
use Rattle.build_records.specs.RecordPlaces.{record_place}
use Rattle.build_records.specs.State.{LevelIs, record_settings_of, BlockNext, SubstringIs, BlockIs}
use Rattle.build_marking.specs.TargetSearch.{parent_answer, Sorted, Between}
use Rattle.build_records.proofs.RecordsRead.{start_fits, start-read}
use Rattle.build_records.proofs.StateLaws.{record-few}
use Rattle.build_records.proofs.Widths.{points-above}

-- The values of a record, from the block's own bytes, its parent and the five numbers that its kind decides.
abbrev block_with : Substring → ℕ → ℕ → ℕ → ℕ → ℕ → Block
block_with own up kind link from gap = record {
  start = own.start;
  length = own.length;
  parent = record { 0 = up };
  kind = kind;
  link = record { 0 = link };
  from = record { 0 = from };
  gap = record { 0 = gap };
}

module _ (S : Settings) (T out : List ℕ) (level : Level) (i : ℕ) (w : BlockNext S T out level i) where
  abbrev l : ℕ
  l = level.number

  abbrev lev : LevelIs S T level
  lev = w.level_is

  i-in : i < count S T l
  i-in = omega (arith, w.block_in, lev.count_is)

  order : InOrder (length T) (size S T l) (count S T l) (start S T l)
  order = level_at S T lev.taken l lev.number_in

  pub sorted : Sorted out level.table level.count (record_settings_of level.settings S.counted)
  sorted =
      let f = record-few S T level lev in
      record {
        counted_few = f.counted_few;
        table_few = f.table_few;
        leaf_few = f.leaf_few;
        count_few = f.count_few;
        fits = λ x xl. start_fits S T out level i w x xl;
        rises = λ x y xy yl. omega (
          arith,
          start-read S T out level i w x (omega arith),
          start-read S T out level i w y yl,
          order.rising x y xy (omega (arith, lev.count_is)),
          order.size,
        );
      }

  parent_by : (n s : ℕ) → ((k : ℕ) → n ≡ suc k → level.above ≡ block_length S k) → parent_answer n level.above s ≡ parent_of S T n s
  unfolding parent_of
  parent_by zero s above = refl
  parent_by (suc n) s above = rw (ne_eqb (suc n) 0 (λ e. omega arith), above n refl)

  -- The block as the code reads it.
  module _ (own : Substring) (own_is : SubstringIs S T l i own) (up : ℕ) (up_is : up ≡ parent_answer level.number level.above own.start.0) where
    up_right : up ≡ parent_of S T l (start S T l i)
    up_right = up_is ∙ parent_by l own.start.0 lev.above_is ∙ ap (parent_of S T l) own_is.start_is

    pub kept_is : (link : ℕ) → kept_at S T l i ≡ true → link ≡ sum_below i (width_of S T l)
        → BlockIs S T l i (block_with own up 0 link 0 0)
    unfolding kind_of link_of gap_of skip_of
    kept_is link k e = record {
      start_is = own_is.start_is;
      length_is = own_is.length_is;
      parent_is = up_right;
      kind_is = rw k;
      link_is = rw k e;
      gap_is = rw k;
      skip_is = λ c. rw k (count_none c T 0);
      skip_in = omega arith;
    }

  -- The block points.
  module _ (points : kept_at S T l i ≡ false) (p : ℕ) (p-right : p ≡ place_of S T l i) where
    to : PointsTo S T l i (target_of S T l i)
    to = points_to S T lev.taken l i (points-above S T l i lev.number_in points) i-in points

    pub whole_range : Between out level.table level.count (record_settings_of level.settings S.counted) p 0 level.count
    whole_range =
        let first : start S T l 0 ≤ start S T l (target_of S T l i) =
        start-le (length T) (size S T l) (count S T l) (start S T l) order 0 (target_of S T l i) (omega arith) to.below in
        record {
          some_left = omega (arith, w.block_in);
          within = omega arith;
          from = omega (arith, start-read S T out level i w 0 (omega (arith, w.block_in)), first, to.from, p-right);
          after = λ j a k. absurd (let z : ⊥ = omega arith in z);
        }

    module _ (r : ℕ) (b : Between out level.table level.count (record_settings_of level.settings S.counted) p r (r + 1)) where
      r-in : r < level.count
      r-in = omega (arith, b.within)

      at-or-before : (j : ℕ) → j < count S T l → j < suc r → leb (start S T l j) (place_of S T l i) ≡ true
      at-or-before j jl jr = le-leb (start S T l j) (place_of S T l i) (omega (
        arith,
        start-le (length T) (size S T l) (count S T l) (start S T l) order j r (omega arith) (omega (arith, r-in, lev.count_is)),
        start-read S T out level i w r r-in,
        b.from,
        p-right,
      ))

      after-it : (j : ℕ) → j < count S T l → suc r ≤ j → leb (start S T l j) (place_of S T l i) ≡ false
      after-it j jl jr = lt-leb (start S T l j) (place_of S T l i) (omega (
        arith,
        b.after j (omega arith) (omega (arith, lev.count_is)),
        start-read S T out level i w j (omega (arith, lev.count_is)),
        p-right,
      ))

      r-right : r ≡ target_of S T l i
      unfolding target
      r-right = omega (
        arith,
        r-in,
        lev.count_is,
        count_below-upto (count S T l) (suc r) (λ j. leb (start S T l j) (place_of S T l i)) at-or-before after-it,
      )

      pub target_fits : record_place level.table r (record_settings_of level.settings S.counted) + 4 ≤ length out
      target_fits = start_fits S T out level i w r r-in

      module _ (from : ℕ) (from_is : from ≡ word_at out (record_place level.table r (record_settings_of level.settings S.counted))) where
        from-right : from ≡ start S T l (target_of S T l i)
        from-right = from_is ∙ start-read S T out level i w r r-in ∙ ap (start S T l) r-right

        pub from_le : from ≤ p
        from_le = omega (arith, from_is, b.from)

        pub pointing-is : (own : Substring) → SubstringIs S T l i own → (up : ℕ) → up ≡ parent_answer level.number level.above own.start.0
            → BlockIs S T l i (block_with own up 1 r from (p - from))
        unfolding kind_of link_of gap_of skip_of
        pointing-is own own_is up up_is = record {
          start_is = own_is.start_is;
          length_is = own_is.length_is;
          parent_is = up_right own own_is up up_is;
          kind_is = rw points;
          link_is = rw points r-right;
          gap_is = rw (points, p-right, from-right);
          skip_is = λ c. rw (points, p-right, from-right);
          skip_in = omega (arith, from_le, p-right, to.ends, order.within i i-in);
        }
