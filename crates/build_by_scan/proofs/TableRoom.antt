-- The table has room for the items of every level above the last.
use mathlib.Core.List.{List}
use mathlib.Core.Path.{◌≡◌, sym, ap, ◌∙◌}
use Prim.Native.Nat.{ℕ, zero, suc, ◌+◌, ◌-◌, ◌*◌, ◌/◌, ◌≤◌, ◌<◌}
use native.Mathlib.Omega.{arith}
use native.Mathlib.Nat.{div-zero, div-le_self, mul-le-mul, mul-le-mul_left, mul_assoc, suc-mul, zero-mul}
use lib.ListN.{length}
use Rattle.format.specs.Layout.{Settings, pieces}
use Rattle.format.specs.PieceLaws.{lt-pieces}
use Rattle.format.specs.SizeLaws.{length-falls}
use Rattle.theory_built.specs.BlockSizes.{Taken, BuiltBounds, bounds, size-falls, size-last}
use Rattle.theory_built.specs.LevelBlocks.{Level as InOrder}
use Rattle.theory_built.specs.Structure.{size, count, start, level_at}
use Rattle.build_by_scan.specs.ScanAnswers.{table_words}

-- No leaf length, no words.
pub no_words : (n m : ℕ) → m ≡ 0 → 0 ≡ table_words n m
unfolding table_words pieces
no_words n m e = sym (ap (λ (k : ℕ). 4 * ((n + (k - 1)) / k)) e ∙ ap (λ (x : ℕ). 4 * x) (div-zero (n + (0 - 1))))

pub pieces-few : (n m : ℕ) → pieces n m ≤ n + m
unfolding pieces
pieces-few n m = omega (arith, div-le_self (n + (m - 1)) m)

module _ (S : Settings) (T : List ℕ) (h : Taken S T) (l : ℕ) (k : suc l < S.levels) where
  limits : BuiltBounds S T
  limits = bounds S T h

  pub order : InOrder (length T) (size S T l) (count S T l) (start S T l)
  order = level_at S T h l (omega arith)

  start-far : (i : ℕ) → i < count S T l → i * size S T l ≤ start S T l i
  start-far zero il = omega (arith, zero-mul (size S T l))
  start-far (suc i) il = omega (arith, start-far i (omega arith), order.rising i (suc i) (omega arith) il, suc-mul i (size S T l))

  -- A block above the last level has at least two leaf lengths.
  pub two-leaves : 2 * S.leaf ≤ size S T l
  two-leaves =
      let below : S.leaf ≤ size S T (suc l) = omega (arith, size-last S T h, length-falls S (bounds S T h) (suc l) (S.levels - 1) (omega arith)) in
      let m : 2 * S.leaf ≤ S.arity * size S T (suc l) = mul-le-mul limits.arity_low below in
      omega (arith, m, size-falls S T h l k)

  -- Blocks and pairs are at most as many as the leaf lengths of the text.
  pub few-items : 1 ≤ count S T l → count S T l + count S T l ≤ pieces (length T) S.leaf + 1
  few-items some =
      let i : ℕ = count S T l - 1 in
      let il : i < count S T l = omega (arith, some) in
      let a : i * (2 * S.leaf) ≤ i * size S T l = mul-le-mul_left i two-leaves in
      let e : i * 2 * S.leaf ≡ i * (2 * S.leaf) = mul_assoc i 2 S.leaf in
      let b : i * 2 * S.leaf < length T = omega (arith, a, e, start-far i il, order.within i il) in
      omega (arith, lt-pieces (length T) S.leaf (i * 2) (omega (arith, limits.leaf_low)) b, some)
