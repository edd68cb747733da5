-- The text fits the tree that is built of it.
use mathlib.Core.List.{List}
use Rattle.std.specs.Prelude.{Bool, true, false, not, ◌&&◌, ◌||◌, ◌≡◌, ◌⊎◌, length, eqb}
use Rattle.std.proofs.Math.Path.{refl}
use Rattle.std.proofs.Common.{sym, ◌∙◌, inl, inr, arith, ext_get_or, eq-eqb}
use Prim.Native.Nat.{ℕ, suc, ◌+◌, ◌-◌, ◌<◌}
use Rattle.text.specs.Text.{all_below, sum_below, tabulate, same_list, substring}
use Rattle.text.specs.ListLaws.{and_both, or_left, or_right, not-eq-true, bool_clash, all_below-make, eq-same_list, length-tabulate, get_or-tabulate}
use Rattle.format.specs.Layout.{Settings}
use Rattle.format.specs.Blocks.{tree_of}
use Rattle.format.specs.Layout as at
use Rattle.format.specs.TreeReading.{last_level}
use Rattle.format.specs.FittingText.{block_fits, fits}
use Rattle.theory_built.specs.BlockSizes.{Taken}
use Rattle.text.specs.TextLaws.{length-substring, get_or-substring}
use Rattle.theory_built.specs.Structure.{count, start, bytes_in, kept_at, width_of}
use Rattle.theory_built.specs.BuiltLeafBytes.{kept-last, leaf-at, bytes_fit}
use Rattle.theory_built.specs.BuiltTargets.{place_of, target_of, points_to, place_of-same}
use Rattle.theory_built.specs.ReadBack.{read-text_length, read-level_count, read-leaf_byte, read-start, read-link, read-gap}
use Rattle.theory_built.specs.ReadBack.{read-block_length, read-is_pointing}
use Rattle.theory_built.specs.BuiltLinks.{levels-are, not_last, upper-or-last, link-kept, link-points, gap-points}

module _ (S : Settings) (T : List ℕ) (h : Taken S T) where
  abbrev t : List ℕ
  t = tree_of S T

  module _ (l i : ℕ) (e : l < S.levels) (il : i < count S T l) where
    -- A last-level block's leaf bytes are the text's.
    leaves-fit : suc l ≡ S.levels
        → substring T (at.start t l i) (at.block_length_at t l i) ≡ tabulate (at.block_length_at t l i) (λ o. at.leaf_byte t (at.link t l i + o))
    leaves-fit last =
        rw (read-start S T h l i e il, read-block_length S T h l i e il, read-link S T h l i e il, link-kept S T l i (kept-last S T l i last))
        (ext_get_or 0 (substring T (start S T l i) len) (tabulate len leaf) (wide ∙ sym (length-tabulate len leaf))
        (λ o ol. let o< : o < len = rw wide at ol in
        get_or-substring T (start S T l i) len o o< ∙ sym (leaf-at S T h l i o last il o<) ∙ sym (read-leaf_byte S T h _) ∙ sym (get_or-tabulate len leaf o 0 o<)))
      where
        len : ℕ
        len = bytes_in S T l i

        leaf : ℕ → ℕ
        leaf o = at.leaf_byte t (sum_below i (width_of S T l) + o)

        wide : length (substring T (start S T l i) len) ≡ len
        wide = length-substring T (start S T l i) len (bytes_fit S T h l i e il)

    -- A pointing block's bytes are those at its occurrence.
    target_fits : suc l < S.levels → kept_at S T l i ≡ false
        → substring T (at.start t l i) (at.block_length_at t l i) ≡ substring T (at.start t l (at.link t l i) + at.gap t l i) (at.block_length_at t l i)
    target_fits up points =
        let q = points_to S T h l i up il points in
        let place : start S T l (target_of S T l i) + (place_of S T l i - start S T l (target_of S T l i)) ≡ place_of S T l i = omega (arith, q.from) in
        rw (
          read-link S T h l i e il,
          link-points S T l i points,
          read-gap S T h l i e il,
          gap-points S T l i points,
          read-start S T h l i e il,
          read-start S T h l (target_of S T l i) e q.below,
          read-block_length S T h l i e il,
          place,
        )
        (sym (place_of-same S T l i))

    block-fits : block_fits T t l i ≡ true
    unfolding block_fits
    block-fits = rw (read-is_pointing S T h l i e il) (go (kept_at S T l i) refl (upper-or-last S T h l e))
      where
        bytes : List ℕ
        bytes = substring T (at.start t l i) (at.block_length_at t l i)

        leaves : List ℕ
        leaves = tabulate (at.block_length_at t l i) (λ o. at.leaf_byte t (at.link t l i + o))

        pointed_to : List ℕ
        pointed_to = substring T (at.start t l (at.link t l i) + at.gap t l i) (at.block_length_at t l i)

        go : (y : Bool) → kept_at S T l i ≡ y → (suc l < S.levels) ⊎ (suc l ≡ S.levels)
            → ((not (eqb l (last_level t)) || same_list bytes leaves) && (not (not y) || same_list bytes pointed_to)) ≡ true
        go true y (inl z) = and_both (or_left _ (not-eq-true (not_last S T h l z))) refl
        go true y (inr z) = and_both (or_right (not (eqb l (last_level t))) (eq-same_list bytes leaves (leaves-fit z))) refl
        go false y (inl z) = and_both (or_left _ (not-eq-true (not_last S T h l z))) (eq-same_list bytes pointed_to (target_fits z y))
        go false y (inr z) = bool_clash (kept_at S T l i) (kept-last S T l i z) y

  blocks-fit : all_below (at.settings t).levels (λ l. all_below (at.level_count t l) (block_fits T t l)) ≡ true
  blocks-fit = rw (levels-are S T h) (all_below-make _ _ (λ l e.
      rw (read-level_count S T h l e) (all_below-make (count S T l) (block_fits T t l) (λ i il. block-fits l i e il))))

  -- The text fits its tree.
  pub built-fits : fits T t ≡ true
  unfolding fits
  built-fits = and_both (eq-eqb (length T) (at.text_length t) (sym (read-text_length S T h))) blocks-fit
