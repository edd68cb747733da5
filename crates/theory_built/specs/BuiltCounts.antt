-- The counts of the built tree are right for the text.
use Rattle.std.specs.Prelude.{List, Bool, ◌≡◌, length, get_or, ◌⊎◌}
use Rattle.std.proofs.Math.Bool.{true, false, cond}
use Rattle.std.proofs.Math.Path.{refl}
use Rattle.std.proofs.Common.{sym, ap, ◌∙◌, eq-eqb, inl, inr}
use Prim.Native.Nat.{ℕ, zero, suc, ◌-◌, ◌*◌, ◌/◌, ◌<◌}
use Rattle.text.specs.ListLaws.{and_both, bool_clash, all_below-make}
use Rattle.text.specs.Text.{substring, count_in}
use Rattle.format.specs.Layout.{Settings}
use Rattle.format.specs.Blocks.{tree_of}
use Rattle.format.specs.Layout as at
use Rattle.format.specs.TreeReading.{block_counts_true, counts_true}
use Rattle.theory_built.specs.BlockSizes.{Taken}
use Rattle.theory_built.specs.Structure.{count, start, kept_at}
use Rattle.theory_built.specs.BuiltLeafBytes.{kept-last}
use Rattle.theory_built.specs.BuiltTargets.{place_of, target_of, points_to}
use Rattle.theory_built.specs.BuiltRecords.{parent_of, before_of, inside_of, skip_of}
use Rattle.theory_built.specs.ReadBack.{read-counted_count, read-settings, read-level_count, read-full_length, read-start, read-link, read-gap}
use Rattle.theory_built.specs.ReadBack.{read-before, read-inside, read-skip, read-block_length, read-is_kept}
use Rattle.theory_built.specs.BuiltLinks.{levels-are, upper-or-last, link-points, gap-points}

module _ (S : Settings) (T : List ℕ) (h : Taken S T) where
  abbrev t : List ℕ
  t = tree_of S T

  -- counted byte number c
  abbrev byte : ℕ → ℕ
  byte c = get_or (at.settings t).counted c 0

  byte_is : (c : ℕ) → get_or S.counted c 0 ≡ byte c
  byte_is c = ap (λ (s : Settings). get_or s.counted c 0) (sym (read-settings S T h))

  module _ (l i c : ℕ) (e : l < S.levels) (il : i < count S T l) (cl : c < length S.counted) where
    before-true : (up : ℕ) → up ≡ parent_of S T l (start S T l i) → at.before t l i c ≡ count_in (byte c) (substring T up (at.start t l i - up))
    unfolding before_of
    before-true up is = read-before S T h l i e il c cl ∙ rw (read-start S T h l i e il, is, byte_is c)

    inside-true : at.inside t l i c ≡ count_in (byte c) (substring T (at.start t l i) (at.block_length_at t l i))
    unfolding inside_of
    inside-true = read-inside S T h l i e il c cl ∙ rw (read-start S T h l i e il, read-block_length S T h l i e il, byte_is c)

    skip-true : at.skip t l i c ≡ cond (at.is_kept t l i) 0 (count_in (byte c) (substring T (at.start t l (at.link t l i)) (at.gap t l i)))
    unfolding skip_of
    skip-true = read-skip S T h l i e il c cl ∙ rw (read-is_kept S T h l i e il, byte_is c) (go (kept_at S T l i) refl (upper-or-last S T h l e))
      where
        go : (y : Bool) → kept_at S T l i ≡ y → (suc l < S.levels) ⊎ (suc l ≡ S.levels)
            → cond y 0 (count_in (byte c) (substring T (start S T l (target_of S T l i)) (place_of S T l i - start S T l (target_of S T l i))))
            ≡ cond y 0 (count_in (byte c) (substring T (at.start t l (at.link t l i)) (at.gap t l i)))
        go true y _ = refl
        go false y (inr z) = bool_clash (kept_at S T l i) (kept-last S T l i z) y
        go false y (inl z) =
            let q = points_to S T h l i z il y in
            rw (
              read-link S T h l i e il,
              link-points S T l i y,
              read-gap S T h l i e il,
              gap-points S T l i y,
              read-start S T h l (target_of S T l i) e q.below,
            )

  block-counts : (l i c : ℕ) → l < S.levels → i < count S T l → c < length S.counted → block_counts_true T t l i c ≡ true
  unfolding block_counts_true parent_of
  block-counts zero i c e il cl =
      and_both (and_both (eq-eqb _ _ (before-true zero i c e il cl 0 refl)) (eq-eqb _ _ (inside-true zero i c e il cl)))
      (eq-eqb _ _ (skip-true zero i c e il cl))
  block-counts (suc l) i c e il cl =
      and_both (and_both (eq-eqb _ _ (before-true (suc l) i c e il cl (at.start t (suc l) i / at.full_length t l * at.full_length t l)
      (rw (read-start S T h (suc l) i e il, read-full_length S T h l))))
      (eq-eqb _ _ (inside-true (suc l) i c e il cl))) (eq-eqb _ _ (skip-true (suc l) i c e il cl))

  -- The counts of the tree are those of the text.
  pub built-counts : counts_true T t ≡ true
  unfolding counts_true
  built-counts = rw (levels-are S T h) (all_below-make _ _ (λ l e.
      rw (read-level_count S T h l e) (all_below-make _ _ (λ i il.
      rw (read-counted_count S T h) (all_below-make _ _ (λ c cl. block-counts l i c e il cl))))))
