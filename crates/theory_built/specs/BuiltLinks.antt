-- The built tree passes question 8.
use Rattle.std.specs.Prelude.{List, Bool, ◌&&◌, ◌||◌, ◌≡◌, ◌⊎◌, ℕ, suc, ◌+◌, ◌-◌, ◌*◌, ◌≤◌, ◌<◌, length, leb, ltb}
use Rattle.std.proofs.Math.Bool.{true, false, cond}
use Rattle.std.proofs.Math.Path.{refl, sym}
use Rattle.std.proofs.Common.{ap, ◌∙◌, inl, inr, arith, le-leb, lt-ltb, eq-eqb, ne_eqb}
use Rattle.std.proofs.Math.Numerals.{add-one}
use Rattle.std.proofs.Math.Dec.{eqb}
use Rattle.text.specs.Text.{all_below, sum_below}
use Rattle.text.specs.ListLaws.{and_both, or_left, or_right, not-eq-true, bool_clash, lt-or-ge, all_below-make, sum_below-ext}
use Rattle.format.specs.Layout.{Settings}
use Rattle.format.specs.Blocks.{tree_of, width}
use Rattle.format.specs.Layout as at
use Rattle.format.specs.TreeReading.{last_level, width_at, kept_right, pointing_right, block_right, count_below_right, links_ok}
use Rattle.theory_built.specs.BlockSizes.{Taken, bounds}
use Rattle.theory_built.specs.LevelBlocks.{child-below}
use Rattle.theory_built.specs.Structure.{size, count, start, bytes_in, kept_at, width_of, level_at, cut_at, count-below, start-below, start-top}
use Rattle.theory_built.specs.BuiltLeafBytes.{kept-last, leaf-count}
use Rattle.theory_built.specs.BuiltTargets.{place_of, target_of, PointsTo, points_to}
use Rattle.theory_built.specs.BuiltRecords.{kind_of, link_of, gap_of}
use Rattle.theory_built.specs.ReadBack.{read-settings, read-level_count, read-leaf_count, read-full_length, read-start, read-kind, read-link}
use Rattle.theory_built.specs.ReadBack.{read-gap, read-block_length, read-is_kept}

module _ (S : Settings) (T : List ℕ) where
  -- The words of kept and of pointing blocks.

  pub link-kept : (l i : ℕ) → kept_at S T l i ≡ true → link_of S T l i ≡ sum_below i (width_of S T l)
  unfolding link_of
  link-kept l i e = rw e

  pub gap-kept : (l i : ℕ) → kept_at S T l i ≡ true → gap_of S T l i ≡ 0
  unfolding gap_of
  gap-kept l i e = rw e

  pub kind-points : (l i : ℕ) → kept_at S T l i ≡ false → kind_of S T l i ≡ 1
  unfolding kind_of
  kind-points l i e = rw e

  pub link-points : (l i : ℕ) → kept_at S T l i ≡ false → link_of S T l i ≡ target_of S T l i
  unfolding link_of
  link-points l i e = rw e

  pub gap-points : (l i : ℕ) → kept_at S T l i ≡ false → gap_of S T l i ≡ place_of S T l i - start S T l (target_of S T l i)
  unfolding gap_of
  gap-points l i e = rw e

  module _ (h : Taken S T) where
    abbrev t : List ℕ
    t = tree_of S T

    pub levels-are : (at.settings t).levels ≡ S.levels
    levels-are = ap (λ (s : Settings). s.levels) (read-settings S T h)

    pub last_level-is : last_level t ≡ S.levels - 1
    unfolding last_level
    last_level-is = rw levels-are

    pub is_last : (l : ℕ) → suc l ≡ S.levels → eqb l (last_level t) ≡ true
    is_last l e = rw last_level-is (eq-eqb l (S.levels - 1) (omega arith))

    pub not_last : (l : ℕ) → suc l < S.levels → eqb l (last_level t) ≡ false
    not_last l e = rw last_level-is (ne_eqb l (S.levels - 1) (λ z. omega arith))

    pub upper-or-last : (l : ℕ) → l < S.levels → (suc l < S.levels) ⊎ (suc l ≡ S.levels)
    upper-or-last l e = go (lt-or-ge (suc l) S.levels)
      where
        go : (suc l < S.levels) ⊎ (S.levels ≤ suc l) → (suc l < S.levels) ⊎ (suc l ≡ S.levels)
        go (inl z) = inl z
        go (inr z) = inr (omega arith)

    last_test : (l : ℕ) → l < S.levels → eqb l (last_level t) ≡ eqb (suc l) S.levels
    last_test l e = go (upper-or-last l e)
      where
        go : (suc l < S.levels) ⊎ (suc l ≡ S.levels) → eqb l (last_level t) ≡ eqb (suc l) S.levels
        go (inl z) = not_last l z ∙ sym (ne_eqb (suc l) S.levels (λ y. omega arith))
        go (inr z) = is_last l z ∙ sym (eq-eqb (suc l) S.levels z)

    pub width_is : (l i : ℕ) → l < S.levels → i < count S T l → width_at t l i ≡ width_of S T l i
    unfolding width_at width
    width_is l i e il = rw (last_test l e, read-is_kept S T h l i e il, read-block_length S T h l i e il, read-full_length S T h (l + 1), add-one)

    widths-are : (l i : ℕ) → l < S.levels → i ≤ count S T l → sum_below i (width_at t l) ≡ sum_below i (width_of S T l)
    widths-are l i e il = sum_below-ext i _ _ (λ j jl. width_is l j e (omega arith))

    module _ (l i : ℕ) (e : l < S.levels) (il : i < count S T l) where
      children-right : kept_at S T l i ≡ true → (eqb l (last_level t)
          || all_below (width_at t l i) (λ j. eqb (at.start t (l + 1) (at.link t l i + j)) (at.start t l i + j * at.full_length t (l + 1)))) ≡ true
      children-right k = go (upper-or-last l e)
        where
          child : suc l < S.levels → (j : ℕ) → j < width_at t l i → at.start t (l + 1) (at.link t l i + j) ≡ at.start t l i + j * at.full_length t (l + 1)
          child z j jl =
              let jl' : j < width_of S T l i = rw (width_is l i e il) at jl in
              rw (
                add-one l,
                read-link S T h l i e il,
                link-kept l i k,
                read-start S T h l i e il,
                read-full_length S T h (suc l),
                read-start S T h (suc l) (sum_below i (width_of S T l) + j) z
                    (child-below (length T) (size S T l)
                    (count S T l) (start S T l) (kept_at S T l) (width_of S T l) (size S T (suc l)) (count S T (suc l)) (start S T (suc l))
                    (level_at S T h l e) (cut_at S T h l z) i j il jl'),
              )
              (start-below S T h l i j z il jl')

          go : (suc l < S.levels) ⊎ (suc l ≡ S.levels) → (eqb l (last_level t)
              || all_below (width_at t l i) (λ j. eqb (at.start t (l + 1) (at.link t l i + j)) (at.start t l i + j * at.full_length t (l + 1)))) ≡ true
          go (inr z) = or_left _ (is_last l z)
          go (inl z) = or_right (eqb l (last_level t)) (all_below-make (width_at t l i) _ (λ j jl. eq-eqb _ _ (child z j jl)))

      kept-right : kept_at S T l i ≡ true → kept_right t l i ≡ true
      unfolding kept_right
      kept-right k = and_both (and_both (eq-eqb (at.link t l i) (sum_below i (width_at t l)) link-right) (eq-eqb (at.gap t l i) 0 gap-right)) (children-right k)
        where
          link-right : at.link t l i ≡ sum_below i (width_at t l)
          link-right = read-link S T h l i e il ∙ link-kept l i k ∙ sym (widths-are l i e (omega arith))

          gap-right : at.gap t l i ≡ 0
          gap-right = read-gap S T h l i e il ∙ gap-kept l i k

      module _ (up : suc l < S.levels) (points : kept_at S T l i ≡ false) where
        j : ℕ
        j = target_of S T l i

        q : PointsTo S T l i j
        unfolding j
        q = points_to S T h l i up il points

        link_is : at.link t l i ≡ j
        unfolding j
        link_is = read-link S T h l i e il ∙ link-points l i points

        gap_is : at.gap t l i ≡ place_of S T l i - start S T l j
        unfolding j
        gap_is = read-gap S T h l i e il ∙ gap-points l i points

        kind-right : eqb (at.kind t l i) 1 ≡ true
        kind-right = eq-eqb (at.kind t l i) 1 (read-kind S T h l i e il ∙ kind-points l i points)

        gap-right : ltb (at.gap t l i) (at.full_length t l) ≡ true
        gap-right = rw (gap_is, read-full_length S T h l) (lt-ltb (place_of S T l i - start S T l j) (size S T l) (omega (arith, q.from, q.near)))

        target_right : (ltb (at.link t l i) (at.level_count t l) && at.is_kept t l (at.link t l i)
            && leb (at.start t l (at.link t l i) + at.gap t l i + at.block_length_at t l i) (at.start t l i)) ≡ true
        target_right =
            rw (
              link_is,
              gap_is,
              read-level_count S T h l e,
              read-is_kept S T h l j e q.below,
              read-start S T h l j e q.below,
              read-start S T h l i e il,
              read-block_length S T h l i e il,
            )
            (and_both (and_both (lt-ltb j (count S T l) q.below) q.kept)
            (le-leb (start S T l j + (place_of S T l i - start S T l j) + bytes_in S T l i) (start S T l i) (omega (arith, q.from, q.ends))))

        next-right : (leb (at.gap t l i + at.block_length_at t l i) (at.full_length t l)
            || (ltb (at.link t l i + 1) (at.level_count t l) && at.is_kept t l (at.link t l i + 1)
            && eqb (at.start t l (at.link t l i + 1)) (at.start t l (at.link t l i) + at.full_length t l))) ≡ true
        next-right = rw (link_is, add-one j, read-level_count S T h l e) (go q.next)
          where
            go : (place_of S T l i + bytes_in S T l i ≤ start S T l j + size S T l)
                ⊎ ((suc j < count S T l) × (start S T l (suc j) ≡ start S T l j + size S T l) × (kept_at S T l (suc j) ≡ true))
                → (leb (at.gap t l i + at.block_length_at t l i) (at.full_length t l)
                || (ltb (suc j) (count S T l) && at.is_kept t l (suc j) && eqb (at.start t l (suc j)) (at.start t l j + at.full_length t l))) ≡ true
            go (inl z) =
                let one : leb (at.gap t l i + at.block_length_at t l i) (at.full_length t l) ≡ true =
                rw (gap_is, read-block_length S T h l i e il, read-full_length S T h l)
                (le-leb (place_of S T l i - start S T l j + bytes_in S T l i) (size S T l) (omega (arith, q.from))) in
                or_left _ one
            go (inr z) =
                let two : (ltb (suc j) (count S T l) && at.is_kept t l (suc j) && eqb (at.start t l (suc j)) (at.start t l j + at.full_length t l)) ≡ true =
                rw (read-is_kept S T h l (suc j) e z.0, read-start S T h l (suc j) e z.0, read-start S T h l j e q.below, read-full_length S T h l)
                (and_both (and_both (lt-ltb (suc j) (count S T l) z.0) z.2) (eq-eqb _ _ z.1)) in
                or_right (leb (at.gap t l i + at.block_length_at t l i) (at.full_length t l)) two

        pointing-right : pointing_right t l i ≡ true
        unfolding pointing_right
        pointing-right = and_both (and_both (and_both (and_both kind-right (not-eq-true (not_last l up))) gap-right) target_right) next-right

      block-right : block_right t l i ≡ true
      unfolding block_right
      block-right = rw (read-is_kept S T h l i e il) (go (kept_at S T l i) refl (upper-or-last l e))
        where
          go : (y : Bool) → kept_at S T l i ≡ y → (suc l < S.levels) ⊎ (suc l ≡ S.levels) → cond y (kept_right t l i) (pointing_right t l i) ≡ true
          go true y _ = kept-right y
          go false y (inl z) = pointing-right z y
          go false y (inr z) = bool_clash (kept_at S T l i) (kept-last S T l i z) y

    count-right : (l : ℕ) → l < S.levels → count_below_right t l ≡ true
    unfolding count_below_right
    count-right l e = rw (read-level_count S T h l e, widths-are l (count S T l) e (omega arith)) (go (upper-or-last l e))
      where
        go : (suc l < S.levels) ⊎ (suc l ≡ S.levels)
            → eqb (sum_below (count S T l) (width_of S T l)) (cond (eqb l (last_level t)) (at.leaf_count t) (at.level_count t (l + 1))) ≡ true
        go (inl z) = rw (not_last l z, add-one l, read-level_count S T h (suc l) z) (eq-eqb _ _ (sym (count-below S T h l z)))
        go (inr z) = rw (is_last l z, read-leaf_count S T h) (eq-eqb _ _ (sym (leaf-count S T h l z)))

    top_right : all_below (at.level_count t 0) (λ i. eqb (at.start t 0 i) (i * at.full_length t 0)) ≡ true
    top_right =
        rw (read-level_count S T h 0 (bounds S T h).levels_low, read-full_length S T h 0)
        (all_below-make _ _ (λ i il. eq-eqb _ _ (read-start S T h 0 i (bounds S T h).levels_low il ∙ start-top S T h i il)))

    levels-right : all_below (at.settings t).levels (λ l. count_below_right t l && all_below (at.level_count t l) (block_right t l)) ≡ true
    levels-right = rw levels-are (all_below-make _ _ (λ l e. and_both (count-right l e)
        (rw (read-level_count S T h l e) (all_below-make (count S T l) (block_right t l) (λ i il. block-right l i e il)))))

    -- The built tree is well linked.
    pub built-linked : links_ok t ≡ true
    unfolding links_ok
    built-linked = and_both top_right levels-right
