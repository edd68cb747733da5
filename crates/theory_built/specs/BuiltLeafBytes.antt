-- The leaf bytes of the built tree: the bytes of the last level's blocks, one block after the other.
use Rattle.std.specs.Prelude.{List, map, true, ◌≡◌, ◌⊎◌, get_or}
use Rattle.std.proofs.Math.Path.{refl, sym, ap}
use Rattle.std.proofs.Common.{◌∙◌, inl, inr}
use Prim.Native.Nat.{ℕ, zero, suc, ◌+◌, ◌-◌, ◌≤◌, ◌<◌, min}
use native.Mathlib.Omega.{arith}
use Rattle.std.proofs.Math.ListN.{length}
use borrow.Author.Tests.{eq-eqb}
use Rattle.text.specs.Text.{tabulate, concat, sum_below, substring}
use Rattle.text.specs.ListLaws.{sum_below-ext, lt-or-ge}
use Rattle.format.specs.Layout.{Settings}
use Rattle.format.specs.Blocks.{starts_at, is_kept, width, leaf_bytes, start_of, length_of}
use Rattle.theory_built.specs.Gather.{length-concat, get_or-concat, map-tabulate, sum_below-le}
use Rattle.text.specs.TextLaws.{length-substring, get_or-substring}
use Rattle.theory_built.specs.BlockSizes.{Taken, bounds, size-last}
use Rattle.theory_built.specs.LevelBlocks.{count-le}
use Rattle.theory_built.specs.Structure.{size, count, start, bytes_in, kept_at, width_of, bytes_in-is, level_at, count-below}

module _ (S : Settings) (T : List ℕ) where
  -- On the last level all blocks are kept, and their width is their length.
  pub kept-last : (l i : ℕ) → suc l ≡ S.levels → kept_at S T l i ≡ true
  unfolding is_kept
  kept-last l i e = rw (eq-eqb (suc l) S.levels e)

  pub width-last : (l i : ℕ) → suc l ≡ S.levels → width_of S T l i ≡ bytes_in S T l i
  unfolding width
  width-last l i e = rw (kept-last l i e, eq-eqb (suc l) S.levels e)

  leaves : ℕ → ℕ → List ℕ
  leaves l i = substring T (start S T l i) (bytes_in S T l i)

  leaves_of : (m l : ℕ) → m ≡ size S T l
      → concat (map (λ s. substring T s (min m (length T - s))) (starts_at S T l)) ≡ concat (tabulate (count S T l) (leaves l))
  unfolding leaves start_of length_of
  leaves_of m l e = rw e (ap concat (map-tabulate (λ s. substring T s (min (size S T l) (length T - s))) (starts_at S T l)))

  module _ (h : Taken S T) where
    pub bytes_fit : (l i : ℕ) → l < S.levels → i < count S T l → start S T l i + bytes_in S T l i ≤ length T
    bytes_fit l i k il = rw (bytes_in-is S T l i) (omega (arith, (level_at S T h l k).within i il))

    -- The blocks before block i end before it, all of them in the text.
    sum-before : (l i : ℕ) → l < S.levels → i < count S T l → sum_below i (bytes_in S T l) ≤ start S T l i
    unfolding sum_below
    sum-before l zero k il = omega arith
    sum-before l (suc i) k il =
        let small : bytes_in S T l i ≤ size S T l = rw (bytes_in-is S T l i) (omega arith) in
        omega (arith, sum-before l i k (omega arith), (level_at S T h l k).rising i (suc i) (omega arith) il)

    pub sum-within : (l : ℕ) → l < S.levels → sum_below (count S T l) (bytes_in S T l) ≤ length T
    unfolding sum_below
    sum-within l k = go (count S T l) refl
      where
        go : (m : ℕ) → m ≡ count S T l → sum_below m (bytes_in S T l) ≤ length T
        go zero e = omega arith
        go (suc m) e = omega (arith, sum-before l m k (omega arith), bytes_fit l m k (omega arith))

    leaf_bytes-is : (l : ℕ) → suc l ≡ S.levels → leaf_bytes S T ≡ concat (tabulate (count S T l) (leaves l))
    unfolding leaf_bytes
    leaf_bytes-is l e =
        let last : S.levels - 1 ≡ l = omega arith in
        leaves_of S.leaf (S.levels - 1) (sym (size-last S T h)) ∙ ap (λ (x : ℕ). concat (tabulate (count S T x) (leaves x))) last

    length-leaves : (l i : ℕ) → suc l ≡ S.levels → i < count S T l → length (leaves l i) ≡ width_of S T l i
    unfolding leaves
    length-leaves l i e il = length-substring T (start S T l i) (bytes_in S T l i) (bytes_fit l i (omega arith) il) ∙ sym (width-last l i e)

    widths : (l i : ℕ) → suc l ≡ S.levels → i ≤ count S T l → sum_below i (λ i. length (leaves l i)) ≡ sum_below i (width_of S T l)
    widths l i e il = sum_below-ext i _ _ (λ j jl. length-leaves l j e (omega arith))

    pub leaf-count : (l : ℕ) → suc l ≡ S.levels → length (leaf_bytes S T) ≡ sum_below (count S T l) (width_of S T l)
    leaf-count l e = ap (λ (s : List ℕ). length s) (leaf_bytes-is l e) ∙ length-concat (count S T l) (leaves l) ∙ widths l (count S T l) e (omega arith)

    -- Leaf byte o of block i is the text's.
    pub leaf-at : (l i o : ℕ) → suc l ≡ S.levels → i < count S T l → o < bytes_in S T l i
        → get_or (leaf_bytes S T) (sum_below i (width_of S T l) + o) 0 ≡ get_or T (start S T l i + o) 0
    unfolding leaves
    leaf-at l i o e il ol =
        rw (leaf_bytes-is l e, ← widths l i e (omega arith))
        (get_or-concat (count S T l) (leaves l) i o 0 il (rw (length-leaves l i e il, width-last l i e) ol)
        ∙ get_or-substring T (start S T l i) (bytes_in S T l i) o ol)

    pub leaves-le : length (leaf_bytes S T) ≤ length T
    leaves-le = go S.levels refl
      where
        go : (H : ℕ) → H ≡ S.levels → length (leaf_bytes S T) ≤ length T
        go zero e = absurd (let z : ⊥ = omega (arith, (bounds S T h).levels_low) in z)
        go (suc l) e = rw (leaf-count l e, sum_below-ext (count S T l) (width_of S T l) (bytes_in S T l) (λ i _. width-last l i e)) (sum-within l (omega arith))

    -- What is below the blocks of a level is no more than the text has bytes.
    pub widths-le : (l i : ℕ) → l < S.levels → i ≤ count S T l → sum_below i (width_of S T l) ≤ length T
    widths-le l i k il = go (lt-or-ge (suc l) S.levels)
      where
        part : sum_below i (width_of S T l) ≤ sum_below (count S T l) (width_of S T l)
        part = sum_below-le (count S T l) (width_of S T l) i il

        go : (suc l < S.levels) ⊎ (S.levels ≤ suc l) → sum_below i (width_of S T l) ≤ length T
        go (inl z) = omega (
          arith,
          part,
          count-below S T h l z,
          count-le (length T) (size S T (suc l)) (count S T (suc l)) (start S T (suc l)) (level_at S T h (suc l) z),
        )
        go (inr z) = omega (arith, part, leaf-count l (omega arith), leaves-le)
