-- Where a pointing block of the built tree points: to kept blocks before it, which hold its bytes.
use Rattle.std.specs.Prelude.{List, true, false, ◌≡◌, ◌⊎◌, ℕ, suc, ◌+◌, ◌≤◌, ◌<◌, length}
use Rattle.std.proofs.Math.Path.{refl}
use Rattle.std.proofs.Common.{inl, inr, arith}
use Rattle.text.specs.Text.{substring, leftmost}
use Rattle.format.specs.Layout.{Settings}
use Rattle.format.specs.Blocks.{starts_at, occurrence, target}
use Rattle.theory_built.specs.BlockSizes.{Taken}
use Rattle.text.specs.TextLaws.{leftmost-le, leftmost-same}
use Rattle.theory_built.specs.OccurrencesLand.{First, Pair}
use Rattle.theory_built.specs.Descent.{holder, ends-before}
use Rattle.theory_built.specs.KeptRule.{byte_at, first-leftmost}
use Rattle.theory_built.specs.Structure.{size, count, start, bytes_in, kept_at, HoldsAt, bytes_in-is, level_at, first-held, holder-kept, holder-next-kept}

module _ (S : Settings) (T : List ℕ) where
  -- Where the bytes of block i first occur, and the block that holds that place.
  abbrev pub place_of : ℕ → ℕ → ℕ
  place_of l i = occurrence S T l (starts_at S T l) i

  abbrev pub target_of : ℕ → ℕ → ℕ
  target_of l i = target S T l (starts_at S T l) i

  pub place_of-is : (l i : ℕ) → place_of l i ≡ leftmost T (start S T l i) (bytes_in S T l i)
  unfolding occurrence
  place_of-is l i = refl

  pub place_of-same : (l i : ℕ) → substring T (place_of l i) (bytes_in S T l i) ≡ substring T (start S T l i) (bytes_in S T l i)
  place_of-same l i = rw (place_of-is l i) (leftmost-same T (start S T l i) (bytes_in S T l i))

  -- Block j and, where they are needed, the next one hold the bytes of block i at an earlier place, and are kept.
  pub record PointsTo (l i j : ℕ) : Type 0 where
    pub below : j < count S T l
    pub kept : kept_at S T l j ≡ true
    pub from : start S T l j ≤ place_of l i
    pub near : place_of l i < start S T l j + size S T l
    pub ends : place_of l i + bytes_in S T l i ≤ start S T l i
    pub next : (place_of l i + bytes_in S T l i ≤ start S T l j + size S T l)
        ⊎ ((suc j < count S T l) × (start S T l (suc j) ≡ start S T l j + size S T l) × (kept_at S T l (suc j) ≡ true))

  module _ (h : Taken S T) (l i : ℕ) (k : suc l < S.levels) (il : i < count S T l) where
    some_bytes : 0 < bytes_in S T l i
    some_bytes = rw (bytes_in-is S T l i) (omega (arith, (level_at S T h l (omega arith)).within i il, (level_at S T h l (omega arith)).size))

    fits : start S T l i + bytes_in S T l i ≤ length T
    fits = rw (bytes_in-is S T l i) (omega (arith, (level_at S T h l (omega arith)).within i il))

    small : bytes_in S T l i ≤ size S T l
    small = rw (bytes_in-is S T l i) (omega arith)

    first : First (byte_at T) (length T) (place_of l i) (bytes_in S T l i)
    first = rw (place_of-is l i) (first-leftmost T (start S T l i) (bytes_in S T l i) fits)

    not_after : place_of l i ≤ start S T l i
    not_after = rw (place_of-is l i) (leftmost-le T (start S T l i) (bytes_in S T l i))

    held : (j : ℕ) × HoldsAt S T l j (place_of l i) (bytes_in S T l i)
    held = first-held S T h l (omega arith) (place_of l i) (bytes_in S T l i) first some_bytes small

    target_is : target_of l i ≡ held.0
    unfolding target
    target_is = holder (byte_at T)
        (length T) (size S T l) (count S T l) (start S T l) (level_at S T h l (omega arith)) (place_of l i) (bytes_in S T l i) held.0 held.1

    module _ (points : kept_at S T l i ≡ false) (j : ℕ) (hold : HoldsAt S T l j (place_of l i) (bytes_in S T l i)) where
      j-kept : kept_at S T l j ≡ true
      j-kept = holder-kept S T h l (place_of l i) (bytes_in S T l i) j k first small hold

      j-next : Pair (byte_at T) (length T) (size S T l) (count S T l) (start S T l) j → kept_at S T l (suc j) ≡ true
      j-next = holder-next-kept S T h l (place_of l i) (bytes_in S T l i) j k first small hold

      to-holder : PointsTo l i j
      to-holder = record {
        below = hold.below;
        kept = j-kept;
        from = hold.from;
        near = hold.before;
        ends = ends-before (byte_at T)
            (length T) (size S T l) (count S T l) (start S T l) (level_at S T h l (omega arith)) (place_of l i) (bytes_in S T l i) j hold
            (kept_at S T l) i il points not_after small j-kept j-next;
        next = go hold.ends;
      }
        where
          go : (place_of l i + bytes_in S T l i ≤ start S T l j + size S T l) ⊎ Pair (byte_at T) (length T) (size S T l) (count S T l) (start S T l) j
              → (place_of l i + bytes_in S T l i ≤ start S T l j + size S T l)
              ⊎ ((suc j < count S T l) × (start S T l (suc j) ≡ start S T l j + size S T l) × (kept_at S T l (suc j) ≡ true))
          go (inl z) = inl z
          go (inr pr) = inr (pr.0, pr.1, j-next pr)

    -- The pointing block's occurrence lies in kept blocks and ends at or before the block's own start.
    pub points_to : kept_at S T l i ≡ false → PointsTo l i (target_of l i)
    points_to points = rw target_is (to-holder points held.0 held.1)
