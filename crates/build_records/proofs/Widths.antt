-- The number of children or leaf bytes of a block, by the kind in its record.
use mathlib.Core.List.{List}
use mathlib.Core.Bool.{true, false}
use mathlib.Core.Path.{◌≡◌, sym, ◌∙◌}
use mathlib.Core.Logic.{◌⊎◌, inl, inr}
use Prim.Native.Nat.{ℕ, suc, ◌+◌, ◌≤◌, ◌<◌}
use native.Mathlib.Omega.{arith}
use native.Mathlib.Numerals.{add-one}
use Rattle.text.specs.ListLaws.{lt-or-ge, bool_cases, bool_clash}
use Rattle.format.specs.Layout.{Settings, pieces, max_text, max_levels}
use Rattle.theory_built.specs.BuiltLeafBytes.{bytes_fit, kept-last, width-last}
use Rattle.theory_built.specs.BuiltLinks.{kind-points}
use Rattle.theory_built.specs.BuiltRecords.{kind_of}
use Rattle.theory_built.specs.BlockSizes.{BuiltBounds, bounds, size-pos}
use Rattle.theory_built.specs.Structure.{kept_at, width_of, bytes_in-is, cut_at}
use Rattle.build_records.specs.declared.level_written.Level.{Level}
use Rattle.build_records.specs.declared.record_written.Block.{Block}
use Rattle.build_records.specs.State.{LevelIs, Writing}
use Rattle.build_records.proofs.StateLaws.{size-high}

-- A block is kept if its kind is 0, and points if not.
module _ (S : Settings) (T : List ℕ) (l i kind : ℕ) (kind_is : kind ≡ kind_of S T l i) where
  pub kept-by-kind : kind ≡ 0 → kept_at S T l i ≡ true
  kept-by-kind e = go (bool_cases (kept_at S T l i))
    where
      go : (kept_at S T l i ≡ true) ⊎ (kept_at S T l i ≡ false) → kept_at S T l i ≡ true
      go (inl y) = y
      go (inr y) = absurd (let z : ⊥ = omega (arith, kind_is, kind-points S T l i y) in z)

  kind-kept : kept_at S T l i ≡ true → kind_of S T l i ≡ 0
  unfolding kind_of
  kind-kept k = rw k

  pub points-by-kind : (kind ≡ 0 → ⊥) → kept_at S T l i ≡ false
  points-by-kind n = go (bool_cases (kept_at S T l i))
    where
      go : (kept_at S T l i ≡ true) ⊎ (kept_at S T l i ≡ false) → kept_at S T l i ≡ false
      go (inl y) = absurd (n (kind_is ∙ kind-kept y))
      go (inr y) = y

-- A pointing block is above the last level.
pub points-above : (S : Settings) (T : List ℕ) (l i : ℕ) → l < S.levels → kept_at S T l i ≡ false → suc l < S.levels
points-above S T l i l-in points = go (lt-or-ge (suc l) S.levels)
  where
    go : (suc l < S.levels) ⊎ (S.levels ≤ suc l) → suc l < S.levels
    go (inl z) = z
    go (inr z) = bool_clash (kept_at S T l i) (kept-last S T l i (omega (arith, l-in))) points

module _ (S : Settings) (T out : List ℕ) (level : Level) (i : ℕ) (block : Block) (w : Writing S T out level i block) where
  abbrev l : ℕ
  l = level.number

  abbrev lev : LevelIs S T level
  lev = w.level_is

  limits : BuiltBounds S T
  limits = bounds S T lev.taken

  pub number-few : l < max_levels
  number-few = omega (arith, lev.number_in, limits.levels_high)

  pub none_below : (block.kind ≡ 0 → ⊥) → 0 ≡ width_of S T l i
  none_below n =
      let points = points-by-kind S T l i block.kind w.block_is.kind_is n in
      sym ((cut_at S T lev.taken l (points-above S T l i lev.number_in points)).uncut i points)

  pub leaves-below : l + 1 ≡ S.levels → block.length ≡ width_of S T l i
  leaves-below e = w.block_is.length_is ∙ sym (width-last S T l i (sym (add-one l) ∙ e))

  -- Above the last level.
  module _ (n : l + 1 ≡ S.levels → ⊥) where
    up : suc l < S.levels
    up = go (lt-or-ge (suc l) S.levels)
      where
        go : (suc l < S.levels) ⊎ (S.levels ≤ suc l) → suc l < S.levels
        go (inl z) = z
        go (inr z) = absurd (n (let e : l + 1 ≡ S.levels = omega (arith, lev.number_in) in e))

    pub pieces-ask : (block.length ≤ max_text) × (0 < level.below) × (level.below ≤ max_text)
    pieces-ask = (
      omega (arith, w.block_is.length_is, bytes_fit S T lev.taken l i lev.number_in (omega (arith, w.block_in, lev.count_is)), limits.text_high),
      rw (lev.below_is up) (size-pos S T lev.taken (suc l)),
      rw (lev.below_is up) (size-high S T lev.taken (suc l)),
    )

    pub children-below : block.kind ≡ 0 → (r : ℕ) → r ≡ pieces block.length level.below → r ≡ width_of S T l i
    children-below e r is =
        is ∙ rw (w.block_is.length_is, lev.below_is up, bytes_in-is S T l i)
        (sym ((cut_at S T lev.taken l up).cut i (kept-by-kind S T l i block.kind w.block_is.kind_is e)))
