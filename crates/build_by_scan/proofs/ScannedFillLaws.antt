-- A level of the tree as the items of a table: the preconditions of a scan, and its result.
use mathlib.Core.List.{List}
use mathlib.Core.Bool.{true}
use mathlib.Core.Path.{◌≡◌, sym, ap, ap₂, ◌∙◌, subst}
use mathlib.Core.Logic.{inl, inr}
use Prim.Native.Nat.{ℕ, suc, ◌+◌, ◌-◌, ◌*◌, ◌/◌, ◌≤◌, ◌<◌, min}
use native.Mathlib.Omega.{arith}
use lib.ListN.{length}
use lib.Dec.{eqb, ltb}
use borrow.Author.Tests.{ltb-true, eqb-true}
use Rattle.text.specs.ListLaws.{and_left, and_right}
use Rattle.text.specs.Text.{leftmost}
use Rattle.format.specs.Layout.{Settings, block_length, pieces, max_text, max_leaf, max_counted}
use Rattle.format.specs.Blocks.{record_bytes, starts_at, pair_at}
use Rattle.theory_built.specs.BlockSizes.{BuiltBounds, bounds, size-pos}
use Rattle.theory_built.specs.Structure.{count, start, bytes_in, bytes_in-is}
use Rattle.theory_built.specs.BuiltTargets.{place_of-is}
use Rattle.build_records.specs.declared.level_written.Level.{Level}
use Rattle.build_records.specs.State.{record_settings_of, LevelIs, BlockNext}
use Rattle.build_records.proofs.StateLaws.{RecordFew, record-few}
use Rattle.build_records.proofs.RecordsRead.{start_fits, start-read, start-in}
use Rattle.build_levels.specs.Trees.{LevelReady}
use Rattle.scan_hash_table.specs.declared.Items.{Items}
use Rattle.scan_hash_table.specs.Entries.{Placed, Laid, start_at, length_at}
use Rattle.scan_pass.specs.Passes.{Present, Ordered, Answered}
use Rattle.scan_pass.proofs.ItemLengths.{block-length, pair-length}
use Rattle.build_by_scan.specs.ItemTable.{items_of, pair_bytes, TableGivesMarking}
use Rattle.build_by_scan.proofs.TableRoom.{pieces-few, order, few-items}

module _ (seed : ℕ) (T out cs : List ℕ) (level : Level)
    (r : LevelReady (record_settings_of level.settings cs) T out level) (k : level.number + 1 < level.settings.levels) (some-blocks : 1 ≤ level.count)
  where
    abbrev S : Settings
    S = record_settings_of level.settings cs

    abbrev l : ℕ
    l = level.number

    abbrev it : Items
    it = items_of (length T) (record_bytes S) level seed

    h : LevelIs S T level
    h = r.level_is

    upper : suc l < S.levels
    upper = omega arith

    small : RecordFew S T level
    small = record-few S T level h

    limits : BuiltBounds S T
    limits = bounds S T h.taken

    pub items-fit : level.count + level.count ≤ pieces (length T) level.settings.leaf + 1
    items-fit = omega (arith, few-items S T h.taken l upper (omega (arith, some-blocks, h.count_is)), h.count_is)

    on : BlockNext S T out level 0
    on = record { level_is = h; filled = r.filled; block_in = omega (arith, some-blocks) }

    -- Block x / 2 of item x.
    pub half_in : (x : ℕ) → x < it.items → x / 2 < level.count
    half_in x xl = omega (arith, some-blocks)

    pub start_is : (x : ℕ) → x < it.items → start_at T out it x ≡ start S T l (x / 2)
    unfolding start_at
    start_is x xl = start-read S T out level 0 on (x / 2) (half_in x xl)

    pub placed : Placed T out it
    placed = record {
      few = omega (arith, limits.text_high);
      items_few = omega (arith, items-fit, pieces-few (length T) level.settings.leaf, limits.leaf_high, limits.text_high);
      size_few = omega (arith, small.size_few);
      starts = λ x xl. start_fits S T out level 0 on (x / 2) (half_in x xl);
      within = λ x xl. omega (arith, start_is x xl, start-in S T out level 0 on (x / 2) (half_in x xl));
    }

    pub laid : (n : ℕ) → 4 * pieces (length T) level.settings.leaf ≤ n → Laid T out it n
    laid n room = record {
      placed = placed;
      heads_low = omega (arith, items-fit, some-blocks);
      room = omega (arith, items-fit, some-blocks);
    }

    pub ordered : Ordered T out it
    ordered = record {
      size_low = omega (arith, h.size_is, size-pos S T h.taken l);
      last = level.count - 1;
      items_are = omega (arith, some-blocks);
      rising = λ x y xy yl. omega (
        arith,
        start_is x (omega arith),
        start_is y yl,
        h.size_is,
        (order S T h.taken l upper).rising (x / 2) (y / 2) xy (omega (arith, half_in y yl, h.count_is)),
      );
    }

    -- Block i is item 2 i, the pair after it item 2 i + 1.
    module _ (i : ℕ) (il : i < count S T l) where
      block-item : 2 * i < it.items
      block-item = omega (arith, h.count_is)

      pub block_start : start_at T out it (2 * i) ≡ start S T l i
      block_start = start_is (2 * i) block-item ∙ ap (start S T l) (let e : 2 * i / 2 ≡ i = omega arith in e)

      pub block-bytes : length_at T out it (2 * i) ≡ bytes_in S T l i
      block-bytes = block-length T out it (2 * i) (omega arith) ∙ ap₂ (λ (b s : ℕ). min b (length T - s)) h.size_is block_start ∙ sym (bytes_in-is S T l i)

      module _ (p : pair_at T (block_length S l) (starts_at S T l) i ≡ true) where
        next-in : suc i < count S T l
        unfolding pair_at
        next-in = ltb-true _ _ (and_left (ltb (suc i) (count S T l)) (eqb (start S T l (suc i)) (start S T l i + block_length S l)) p)

        follows : start S T l (suc i) ≡ start S T l i + block_length S l
        unfolding pair_at
        follows = eqb-true _ _ (and_right (ltb (suc i) (count S T l)) (eqb (start S T l (suc i)) (start S T l i + block_length S l)) p)

        pub pair-item : 2 * i + 1 < it.items
        pair-item = omega (arith, next-in, h.count_is)

        pub pair-start : start_at T out it (2 * i + 1) ≡ start S T l i
        pair-start = start_is (2 * i + 1) pair-item ∙ ap (start S T l) (let e : (2 * i + 1) / 2 ≡ i = omega arith in e)

        pub pair-there : Present T out it (2 * i + 1)
        pair-there =
            let next : start_at T out it (2 * i + 1 + 1) ≡ start S T l (suc i) = start_is (2 * i + 1 + 1) (omega (arith, next-in, h.count_is))
            ∙ ap (start S T l) (let e : (2 * i + 1 + 1) / 2 ≡ suc i = omega arith in e) in
            inr (omega (arith, next, follows, pair-start, h.size_is))

        pub pair-bytes : length_at T out it (2 * i + 1) ≡ pair_bytes S T l i
        pair-bytes = pair-length T out it (2 * i + 1) (omega arith) ∙ ap₂ (λ (b s : ℕ). min (b + b) (length T - s)) h.size_is pair-start

    -- The result of the scan.
    pub table-gives-marking : (W : List ℕ) → Answered T out it W → TableGivesMarking S T l W
    table-gives-marking W a = record {
      upper = upper;
      room = omega (arith, a.laid.room, h.count_is);
      place = λ i il. a.place (2 * i) (block-item i il) (inl (omega arith)) ∙ ap₂ (leftmost T) (block_start i il) (block-bytes i il)
          ∙ sym (place_of-is S T l i);
      equal_before = λ i il. a.equal_before (2 * i) (block-item i il) (inl (omega arith));
      first = λ i il p e. sym (ap₂ (leftmost T) (pair-start i il p) (pair-bytes i il p))
          ∙ a.first (2 * i + 1) (pair-item i il p) (pair-there i il p) (e ∙ sym (pair-start i il p)) ∙ pair-start i il p;
      again = λ i il p n e. a.again (2 * i + 1) (pair-item i il p) (pair-there i il p) (λ q. n (q ∙ pair-start i il p))
          (ap₂ (leftmost T) (pair-start i il p) (pair-bytes i il p) ∙ e ∙ sym (pair-start i il p));
    }

    -- The preconditions and the result for the items that the code made.
    module _ (made : Items) (e : made ≡ it) where
      pub scan-asks : (n : ℕ) → 4 * pieces (length T) level.settings.leaf ≤ n → Laid T out made n × Ordered T out made
      scan-asks n room = subst (λ (i : Items). Laid T out i n × Ordered T out i) (sym e) (laid n room, ordered)

      pub answered-by : (W : List ℕ) → Answered T out made W → TableGivesMarking S T l W
      answered-by W a = table-gives-marking W (subst (λ (i : Items). Answered T out i W) e a)

    pub items-asks : (length cs ≤ max_counted) × (1 ≤ level.count) × (1 ≤ level.settings.leaf) × (level.settings.leaf ≤ max_leaf) × (length T ≤ max_text)
        × (level.count + level.count ≤ pieces (length T) level.settings.leaf + 1)
    items-asks = (small.counted_few, some-blocks, limits.leaf_low, limits.leaf_high, limits.text_high, items-fit)

-- A level without blocks has no results.
pub answered-none : (S : Settings) (T W : List ℕ) (l : ℕ) → suc l < S.levels → count S T l ≡ 0 → TableGivesMarking S T l W
answered-none S T W l upper none = record {
  upper = upper;
  room = omega (arith, none);
  place = λ i il. absurd (no_block i il);
  equal_before = λ i il. absurd (no_block i il);
  first = λ i il. absurd (no_block i il);
  again = λ i il. absurd (no_block i il);
}
  where
    no_block : (i : ℕ) → i < count S T l → ⊥
    no_block i il = omega (arith, none)
