-- Every number that the built tree holds is below 2^32.
use Rattle.std.specs.Prelude.{List, Bool, true, false, cond, ◌≡◌, refl, ℕ, zero, suc, ◌+◌, ◌-◌, ◌*◌, ◌≤◌, ◌<◌, length, drop}
use Rattle.std.proofs.Common.{arith, length-take, length-drop}
use Rattle.std.proofs.Math.Nat.{mul-le-mul_right}
use Rattle.std.proofs.Math.Dec.{leb}
use Rattle.text.specs.Text.{sum_below, count_below, substring, count_in}
use Rattle.text.proofs.CountTheorems as text
use Rattle.format.specs.Layout.{Settings}
use Rattle.format.specs.SizeLaws.{record-edged}
use Rattle.format.specs.Blocks.{target, record_bytes, built_layout}
use Rattle.text.specs.TextLaws.{leftmost-le}
use Rattle.theory_built.specs.Gather.{sum_below-le}
use Rattle.theory_built.specs.LevelBlocks.{count-le}
use Rattle.theory_built.specs.Totals.{blocks-room, all_room, max_records, records-few}
use Rattle.theory_built.specs.BlockSizes.{Taken, BuiltBounds, bounds, size-falls, size-last, max_table}
use Rattle.theory_built.specs.Structure.{size, count, start, bytes_in, kept_at, level_at}
use Rattle.theory_built.specs.BuiltTargets.{place_of, target_of, place_of-is}
use Rattle.theory_built.specs.BuiltLeafBytes.{widths-le}
use Rattle.theory_built.specs.Pairs.{offset}
use Rattle.theory_built.specs.BuiltRecords.{kind_of, link_of, gap_of, before_of, inside_of, skip_of}

substring-le : (T : List ℕ) (p len : ℕ) → length (substring T p len) ≤ length T
unfolding substring
substring-le T p len = rw (length-take len (drop p T), length-drop p T) (omega arith)

count_below-le : (N : ℕ) (test : ℕ → Bool) → count_below N test ≤ N
unfolding count_below
count_below-le zero test = omega arith
count_below-le (suc N) test = go (test N) (count_below-le N test)
  where
    go : (y : Bool) → count_below N test ≤ N → cond y (count_below N test + 1) (count_below N test) ≤ suc N
    go true h = omega arith
    go false h = omega arith

cond-le : (y : Bool) (a b n : ℕ) → a ≤ n → b ≤ n → cond y a b ≤ n
cond-le true a b n p q = p
cond-le false a b n p q = q

module _ (S : Settings) (T : List ℕ) where
  counted-le : (c p len : ℕ) → count_in c (substring T p len) ≤ length T
  counted-le c p len = omega (arith, text.count-le c (substring T p len), substring-le T p len)

  target-le : (l i : ℕ) → target_of S T l i ≤ count S T l
  unfolding target
  target-le l i = omega (arith, count_below-le (count S T l) (λ j. leb (start S T l j) (place_of S T l i)))

  pub before-le : (l i c : ℕ) → before_of S T l i c ≤ length T
  unfolding before_of
  before-le l i c = counted-le c _ _

  pub inside-le : (l i c : ℕ) → inside_of S T l i c ≤ length T
  unfolding inside_of
  inside-le l i c = counted-le c _ _

  pub skip-le : (l i c : ℕ) → skip_of S T l i c ≤ length T
  unfolding skip_of
  skip-le l i c = cond-le (kept_at S T l i) 0 _ (length T) (omega arith) (counted-le c _ _)

  pub kind-le : (l i : ℕ) → kind_of S T l i ≤ 1
  unfolding kind_of
  kind-le l i = cond-le (kept_at S T l i) 0 1 1 (omega arith) (omega arith)

  module _ (h : Taken S T) (l : ℕ) (k : l < S.levels) where
    pub blocks-le : count S T l ≤ length T
    blocks-le = count-le (length T) (size S T l) (count S T l) (start S T l) (level_at S T h l k)

    pub link-le : (i : ℕ) → i < count S T l → link_of S T l i ≤ length T
    unfolding link_of
    link-le i il = cond-le (kept_at S T l i) _ (target_of S T l i) (length T) (widths-le S T h l i k (omega arith)) (omega (arith, target-le l i, blocks-le))

    pub gap-le : (i : ℕ) → i < count S T l → gap_of S T l i ≤ length T
    unfolding gap_of
    gap-le i il = cond-le (kept_at S T l i) 0 _ (length T) (omega arith)
        (omega (arith, place_of-is S T l i, leftmost-le T (start S T l i) (bytes_in S T l i), (level_at S T h l k).within i il))

  module _ (h : Taken S T) where
    limits : BuiltBounds S T
    limits = bounds S T h

    halves : (l : ℕ) → suc l < S.levels → 2 * size S T (suc l) ≤ size S T l
    halves l e = omega (arith, size-falls S T h l e, mul-le-mul_right (size S T (suc l)) limits.arity_low)

    -- The blocks of all levels, each counted with the bytes of a full block of the last.
    leaves-room : sum_below S.levels (count S T) * S.leaf ≤ 2 * length T + S.levels * S.leaf
    leaves-room =
        let last : suc (S.levels - 1) ≡ S.levels = omega (arith, limits.levels_low) in
        rw (last, size-last S T h) at (all_room (length T) S.levels (size S T) (count S T) halves
        (λ i il. blocks-room (length T) (size S T i) (count S T i) (start S T i) (level_at S T h i il)) (S.levels - 1) (omega arith))

    -- The records of all levels.
    table-le : sum_below S.levels (count S T) * record_bytes S ≤ max_records (length T)
    unfolding record_bytes
    table-le = rw (record-edged built_layout S.leaf (length S.counted) refl)
        (records-few (sum_below S.levels (count S T)) S.leaf (length T)
        S.levels (length S.counted) limits.leaf_low limits.leaf_high limits.levels_high limits.counted_high leaves-room)

    pub offset-le : (l : ℕ) → l ≤ S.levels → offset S T l ≤ max_table
    unfolding offset
    offset-le l e = omega (arith, mul-le-mul_right (record_bytes S) (sum_below-le S.levels (count S T) l e), table-le, limits.text_high)
