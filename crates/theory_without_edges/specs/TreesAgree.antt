-- Two trees agree if they differ at most in layout, offsets and edges. If the check accepts one, the other passes question 8, the same text fits it, and its
-- counts are right for that text.
use Rattle.std.specs.Prelude.{List, true, false, cond, ◌⊎◌, ◌≡◌}
use Rattle.std.proofs.Common.{inl, inr, sym, ap, ◌∙◌, arith}
use Rattle.std.proofs.Math.Path.{refl}
use Prim.Native.Nat.{ℕ, zero, suc, ◌+◌, ◌-◌, ◌≤◌, ◌<◌}
use Rattle.text.specs.Text.{sum_below}
use Rattle.text.specs.ListLaws.{bool_cases, sum_below-ext, sum_below-part}
use Rattle.format.specs.Layout.{start_field, kind_field, link_field, gap_field, before_field, inside_field, skip_field, Settings, max_levels}
use Rattle.format.specs.LayoutLaws.{field_count, Readable, header-facts}
use Rattle.format.specs.Layout as at
use Rattle.format.specs.TreeReading.{last_level, width_at, text_of, counts_true, header_result, check_result}
use Rattle.format.specs.CheckResultLaws as check-results
use Rattle.theory_paths.specs.Links.{H, N, b, s, len, Kept, Follows, Pointing, Linked, linked-facts, points-not-kept}
use Rattle.theory_paths.specs.FitsFacts.{Fitting, fits-facts, fits-make}
use Rattle.theory_paths.specs.OneText as one
use Rattle.theory_counts.specs.CountsLocal.{byte_of}
use Rattle.theory_counts.specs.LevelTrue.{tally, place_in_parent, Block, counts-facts, counts-make}
use Rattle.theory_without_edges.specs.LinksMade.{linked-make}

-- Every field of u but its layout, offsets and edges equals that of t.
pub record Agree (t u : List ℕ) : Type 0 where
  pub settings_are : at.settings u ≡ at.settings t
  pub length_is : at.text_length u ≡ at.text_length t
  pub counted_are : at.counted_count u ≡ at.counted_count t
  pub counts_are : (l : ℕ) → l < max_levels → at.level_count u l ≡ at.level_count t l
  pub leaves_are : at.leaf_count u ≡ at.leaf_count t
  pub fields_are : (l i f : ℕ) → l < (at.settings t).levels → i < at.level_count t l → f < field_count (at.counted_count t)
      → at.field u l i f ≡ at.field t l i f
  pub leaf-bytes : (x : ℕ) → at.leaf_byte u x ≡ at.leaf_byte t x

module _ (t u : List ℕ) (k : Readable t) (g : Agree t u) where
  pub levels-are : H u ≡ H t
  levels-are = ap (λ (x : Settings). x.levels) g.settings_are

  pub full_is : (l : ℕ) → b u l ≡ b t l
  unfolding at.full_length
  full_is l = rw g.settings_are

  last_is : last_level u ≡ last_level t
  unfolding last_level
  last_is = rw levels-are

  pub count_is : (l : ℕ) → l < H t → N u l ≡ N t l
  count_is l h = g.counts_are l (omega (arith, k.bounds.levels_high))

  module _ (l i : ℕ) (hl : l < H t) (hi : i < N t l) where
    start_is : s u l i ≡ s t l i
    unfolding at.start
    start_is = g.fields_are l i start_field hl hi (omega arith)

    pub kind_is : at.kind u l i ≡ at.kind t l i
    unfolding at.kind
    kind_is = g.fields_are l i kind_field hl hi (omega arith)

    pub link_is : at.link u l i ≡ at.link t l i
    unfolding at.link
    link_is = g.fields_are l i link_field hl hi (omega arith)

    pub gap_is : at.gap u l i ≡ at.gap t l i
    unfolding at.gap
    gap_is = g.fields_are l i gap_field hl hi (omega arith)

    before-is : (c : ℕ) → c < at.counted_count t → at.before u l i c ≡ at.before t l i c
    unfolding at.before
    before-is c hc = g.fields_are l i (before_field c) hl hi (omega arith)

    inside_is : (c : ℕ) → c < at.counted_count t → at.inside u l i c ≡ at.inside t l i c
    unfolding at.inside
    inside_is c hc = g.fields_are l i (inside_field c) hl hi (omega arith)

    skip_is : (c : ℕ) → c < at.counted_count t → at.skip u l i c ≡ at.skip t l i c
    unfolding at.skip
    skip_is c hc = g.fields_are l i (skip_field c) hl hi (omega arith)

    pub kept_is : at.is_kept u l i ≡ at.is_kept t l i
    unfolding at.is_kept
    kept_is = rw kind_is

    pointing-is : at.is_pointing u l i ≡ at.is_pointing t l i
    unfolding at.is_pointing
    pointing-is = rw kind_is

    len_is : len u l i ≡ len t l i
    unfolding at.block_length_at
    len_is = rw (full_is l, g.length_is, start_is)

    width_is : width_at u l i ≡ width_at t l i
    unfolding width_at
    width_is = rw (last_is, kept_is, len_is, full_is (l + 1))

  widths-are : (l n : ℕ) → l < H t → n ≤ N t l → sum_below n (width_at u l) ≡ sum_below n (width_at t l)
  widths-are l n hl hn = sum_below-ext n _ _ (λ i h. width_is l i hl (omega arith))

  -- Question 8.
  module _ (d : Linked t) where
    child-below : (l i j : ℕ) → l + 1 < H t → i < N t l → at.link t l i ≡ sum_below i (width_at t l) → j < width_at t l i
        → at.link t l i + j < N t (l + 1)
    child-below l i j hl hi e hj = omega (arith, e, sum_below-part (N t l) (width_at t l) i hi, d.next_count l hl)

    kept : (l i : ℕ) → l < H t → i < N t l → Kept t l i → Kept u l i
    kept l i hl hi a = record {
      link_is = link_is l i hl hi ∙ a.link_is ∙ sym (widths-are l i hl (omega arith));
      gap_is = gap_is l i hl hi ∙ a.gap_is;
      child_start = λ h j hj.
          let below : l + 1 < H t = rw levels-are at h in
          let narrow : j < width_at t l i = rw (width_is l i hl hi) at hj in
          rw (
            link_is l i hl hi,
            start_is l i hl hi,
            full_is (l + 1),
            start_is (l + 1) (at.link t l i + j) below (child-below l i j below hi a.link_is narrow),
          ) (a.child_start below j narrow);
    }

    follows : (l j : ℕ) → l < H t → j < N t l → Follows t l j → Follows u l j
    follows l j hl hj f = record {
      below = rw (count_is l hl) f.below;
      kept = kept_is l (j + 1) hl f.below ∙ f.kept;
      start_is = rw (start_is l (j + 1) hl f.below, start_is l j hl hj, full_is l) f.start_is;
    }

    points : (l i : ℕ) → l < H t → i < N t l → Pointing t l i → Pointing u l i
    points l i hl hi p =
        let j = at.link t l i in
        let e = link_is l i hl hi in record {
          kind_is = kind_is l i hl hi ∙ p.kind_is;
          above = rw levels-are p.above;
          gap_small = rw (gap_is l i hl hi, full_is l) p.gap_small;
          target_below = rw (e, count_is l hl) p.target_below;
          target_kept = rw e (kept_is l j hl p.target_below ∙ p.target_kept);
          ends = rw (e, gap_is l i hl hi, len_is l i hl hi, start_is l i hl hi, start_is l j hl p.target_below) p.ends;
          next = λ h. rw e (follows l j hl p.target_below (p.next (rw (gap_is l i hl hi, len_is l i hl hi, full_is l) at h)));
        }

    pub agree-linked : Linked u
    agree-linked = record {
      start0 = λ i h.
          let low : 0 < H t = omega (arith, k.bounds.levels_low) in
          let hi : i < N t 0 = rw (count_is 0 low) at h in
          rw (start_is 0 i low hi, full_is 0) (d.start0 i hi);
      next_count = λ l h.
          let hl : l + 1 < H t = rw levels-are at h in
          let here : l < H t = omega arith in
          rw (count_is l here, count_is (l + 1) hl, widths-are l (N t l) here (omega arith)) (d.next_count l hl);
      leaf-count = λ h.
          let low : 0 < H t = rw levels-are at h in
          let here : H t - 1 < H t = omega arith in
          rw (levels-are, count_is (H t - 1) here, widths-are (H t - 1) (N t (H t - 1)) here (omega arith), g.leaves_are) (d.leaf-count low);
      kept = λ l i h hi y.
          let hl : l < H t = rw levels-are at h in
          let hi₁ : i < N t l = rw (count_is l hl) at hi in
          kept l i hl hi₁ (d.kept l i hl hi₁ (sym (kept_is l i hl hi₁) ∙ y));
      points = λ l i h hi y.
          let hl : l < H t = rw levels-are at h in
          let hi₁ : i < N t l = rw (count_is l hl) at hi in
          points l i hl hi₁ (d.points l i hl hi₁ (sym (kept_is l i hl hi₁) ∙ y));
    }

    -- Which text fits.
    agree-fitting : (T : List ℕ) → Fitting T t → Fitting T u
    agree-fitting T f = record {
      size = f.size ∙ sym g.length_is;
      leaves = λ i o h ho.
          let here : H t - 1 < H t = omega (arith, k.bounds.levels_low) in
          let hi : i < N t (H t - 1) = rw (levels-are, count_is (H t - 1) here) at h in
          let ho₁ : o < len t (H t - 1) i = rw (levels-are, len_is (H t - 1) i here hi) at ho in
          rw (levels-are, start_is (H t - 1) i here hi, link_is (H t - 1) i here hi, g.leaf-bytes (at.link t (H t - 1) i + o)) (f.leaves i o hi ho₁);
      points = λ l i o h hi y ho.
          let hl : l < H t = rw levels-are at h in
          let hi₁ : i < N t l = rw (count_is l hl) at hi in
          let points : at.is_pointing t l i ≡ true = sym (pointing-is l i hl hi₁) ∙ y in
          let ho₁ : o < len t l i = rw (len_is l i hl hi₁) at ho in
          rw (
            start_is l i hl hi₁,
            link_is l i hl hi₁,
            gap_is l i hl hi₁,
            start_is l (at.link t l i) hl (d.points l i hl hi₁ (points-not-kept t l i points)).target_below,
          ) (f.points l i o hl hi₁ points ho₁);
    }

    module _ (k₁ : Readable u) where
      pub agree-text : text_of u ≡ text_of t
      agree-text =
          let low : 0 < H t = omega (arith, k.bounds.levels_low) in
          sym (one.fits-same u k₁ agree-linked (text_of t)
          (fits-make (text_of t) u k₁ agree-linked (agree-fitting (text_of t) (fits-facts (text_of t) t low (one.text-fits t k d)))))

      -- Question 9 of the counts.
      tally-is : (c p x : ℕ) → tally u c p x ≡ tally t c p x
      unfolding tally byte_of
      tally-is c p x = rw (g.settings_are, agree-text)

      parent_is : (l p : ℕ) → place_in_parent u l p ≡ place_in_parent t l p
      unfolding place_in_parent
      parent_is zero p = refl
      parent_is (suc l) p = rw (full_is l)

      block : (l i c : ℕ) → l < H t → i < N t l → c < at.counted_count t → Block t l i c → Block u l i c
      block l i c hl hi hc a = record {
        before-is = rw (before-is l i hl hi c hc, start_is l i hl hi, parent_is l (s t l i), tally-is c (place_in_parent t l (s t l i)) _) a.before-is;
        inside_is = rw (inside_is l i hl hi c hc, start_is l i hl hi, len_is l i hl hi, tally-is c (s t l i) (len t l i)) a.inside_is;
        skip_is = skip_is l i hl hi c hc ∙ a.skip_is ∙ skipped (bool_cases (at.is_kept t l i));
      }
        where
          skipped : (at.is_kept t l i ≡ true) ⊎ (at.is_kept t l i ≡ false)
              → cond (at.is_kept t l i) 0 (tally t c (s t l (at.link t l i)) (at.gap t l i))
              ≡ cond (at.is_kept u l i) 0 (tally u c (s u l (at.link u l i)) (at.gap u l i))
          skipped (inl y) = rw (kept_is l i hl hi, y)
          skipped (inr y) =
              rw (
                kept_is l i hl hi,
                y,
                link_is l i hl hi,
                gap_is l i hl hi,
                start_is l (at.link t l i) hl (d.points l i hl hi y).target_below,
                tally-is c (s t l (at.link t l i)) (at.gap t l i),
              )

      pub agree-counts : counts_true (text_of t) t ≡ true → counts_true (text_of u) u ≡ true
      agree-counts h = counts-make u (λ l hl i c hi hc.
          let hl₁ : l < H t = rw levels-are at hl in
          let hi₁ : i < N t l = rw (count_is l hl₁) at hi in
          let hc₁ : c < at.counted_count t = rw g.counted_are at hc in
          block l i c hl₁ hi₁ hc₁ (counts-facts t h l hl₁ i c hi₁ hc₁))

-- If the check accepts t, it accepts every tree of layout 1 that passes questions 5 to 7 and agrees with t, and the same text fits.
module _ (t u : List ℕ) (v : check_result t ≡ 0) (r : header_result u ≡ 0) (edgeless : at.layout u ≡ 1) (g : Agree t u) where
  k : Readable t
  k = header-facts t (check-results.accepted-header t v)

  d : Linked t
  d = linked-facts t (check-results.accepted-links t v)

  pub agree-same-text : text_of u ≡ text_of t
  agree-same-text = agree-text t u k g d (header-facts u r)

  pub agree-accepted : check_result u ≡ 0
  agree-accepted =
      check-results.accepted u r (linked-make u (agree-linked t u k g d)) (agree-counts t u k g d (header-facts u r) (check-results.accepted-counts t v))
      (check-results.no_edges (text_of u) u edgeless)
