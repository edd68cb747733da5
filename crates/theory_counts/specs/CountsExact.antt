-- The check of counts is exact: the local equations of every level hold exactly if the counts are right for the tree's text.
use Rattle.std.specs.Prelude.{List, Bool, false, ◌≡◌, refl, ◌⊎◌}
use Rattle.std.proofs.Math.Bool.{true, cond}
use Rattle.std.proofs.Common.{sym, ◌∙◌, inl, inr, pos_of_ne-zero}
use Prim.Native.Nat.{ℕ, zero, suc, ◌+◌, ◌-◌, ◌/◌, ◌%◌, ◌≤◌, ◌<◌}
use native.Mathlib.Omega.{arith}
use borrow.Author.Tests.{eqb-true, eqb-false, eq-eqb, ne_eqb}
use Rattle.std.proofs.Math.Dec.{eqb}
use Rattle.text.specs.Text.{all_below}
use Rattle.text.specs.ListLaws.{bool_cases, and_left, and_right, and_both, below_suc, all_below-at, all_below-make}
use Rattle.format.specs.LayoutLaws.{Readable}
use Rattle.format.specs.Layout as at
use Rattle.format.specs.TreeReading.{target_block, target_place, last_level, text_of, counts_true}
use Rattle.theory_paths.specs.Links.{H, N, b, s, len, Linked}
use Rattle.theory_paths.specs.BlockStarts.{child, len-pos, target-full}
use Rattle.theory_paths.specs.PlacesResolved.{target}
use Rattle.theory_counts.specs.CountsLocal.{up_length, holder_block, holder_place, holder_plus, up_to, before_local, last_child, kept_inside, kept_local}
use Rattle.theory_counts.specs.CountsLocal.{pointing_skip, pointing_inside, pointing_local, block_local, level_local, counts_local}
use Rattle.theory_counts.specs.LevelTrue.{tally, place_in_parent, Block, Level, counts-facts, counts-make}
use Rattle.theory_counts.specs.CountedSubstrings.{tally-none, tally-parts, leaves-tally}
use Rattle.theory_counts.specs.SiblingCounts.{kept_step, last-child-tally, at-parent, neighbour}
use Rattle.theory_counts.specs.PointedCounts.{points-holder, holder-counts}

module _ (t : List ℕ) (k : Readable t) (d : Linked t) where
  -- The counts of the levels below l are true.
  abbrev pub Below : ℕ → Type 0
  Below l = (m : ℕ) → l < m → m < H t → Level t m

  -- The count walk in a kept block, whose levels below are true, gives the text's count.
  pub up-to : (below l i o c : ℕ) → l + below + 1 ≡ H t → i < N t l → at.is_kept t l i ≡ true → o < len t l i → c < at.counted_count t → Below l
      → up_to t below l i o c ≡ tally t c (s t l i) (o + 1)
  unfolding up_to
  up-to zero l i o c lev hi kept ho hc h = leaves-tally t k d l i (o + 1) c (omega arith) hi (omega arith)
  up-to (suc below) l i o c lev hi kept ho hc h =
      let hl : l + 1 < H t = omega arith in
      let j = at.link t l i + o / b t (l + 1) in
      let p = o % b t (l + 1) in
      let q = child t k d l i o hl hi kept ho in
      let w = holder-counts t k d (l + 1) j p c hl q.below q.inside hc (h (l + 1) (omega arith) hl) in
      let ih = up-to below (l + 1)
      (holder_block t (l + 1) j p) (holder_place t (l + 1) j p) c (omega arith) w.below w.kept w.inside hc (λ m lt hm. h m (omega arith) hm) in
      omega (arith, ih, w.count, kept_step t k d l i o c hl hi kept ho (h (l + 1) (omega arith) hl j c q.below hc))

  -- What a block is compared with is what the text gives.
  module _ (l i c : ℕ) (hl : l < H t) (hi : i < N t l) (hc : c < at.counted_count t) (h : Below l) where
    last-true : l + 1 < H t → at.is_kept t l i ≡ true → Block t (l + 1) (last_child t l i) c
    unfolding last_child
    last-true hl₁ kept =
        h (l + 1) (omega arith) hl₁ (last_child t l i) c
        (child t k d l i (len t l i - 1) hl₁ hi kept (omega (arith, len-pos t k d l i hl hi))).below hc

    pub kept-inside : at.is_kept t l i ≡ true → kept_inside t l i c ≡ tally t c (s t l i) (len t l i)
    unfolding kept_inside last_level
    kept-inside kept = go (below_suc l (H t - 1) (omega arith))
      where
        go : (l < H t - 1) ⊎ (l ≡ H t - 1) → kept_inside t l i c ≡ tally t c (s t l i) (len t l i)
        go (inl lt) =
            let hl₁ : l + 1 < H t = omega arith in
            rw (ne_eqb l (H t - 1) (λ e. omega arith)) (last-child-tally t k d l i c hl₁ hi kept (last-true hl₁ kept))
        go (inr e) = rw (eq-eqb l (H t - 1) e) (leaves-tally t k d l i (len t l i) c (omega arith) hi (omega arith))

    pub pointing-skip : at.is_kept t l i ≡ false → pointing_skip t l i c ≡ tally t c (s t l (at.link t l i)) (at.gap t l i)
    unfolding pointing_skip last_level
    pointing-skip un = go (bool_cases (eqb (at.gap t l i) 0))
      where
        j : ℕ
        j = at.link t l i

        g : ℕ
        g = at.gap t l i

        go : (eqb g 0 ≡ true) ⊎ (eqb g 0 ≡ false) → pointing_skip t l i c ≡ tally t c (s t l j) g
        go (inl e) = let z : g ≡ 0 = eqb-true g 0 e in rw (e, z) (sym (tally-none t c (s t l j)))
        go (inr e) =
            let p = d.points l i hl hi un in
            let ne : g ≡ 0 → ⊥ = eqb-false g 0 e in
            let pos : 1 ≤ g = pos_of_ne-zero ne in
            let one : g - 1 + 1 ≡ g = omega arith in
            let u = up-to (H t - 1 - l)
            l j (g - 1) c (omega arith) p.target_below p.target_kept (omega (arith, target-full t k d l i p hi, p.gap_small)) hc h in
            rw e (rw one at u)

    pub pointing-inside : at.is_kept t l i ≡ false → at.inside t l (at.link t l i) c ≡ tally t c (s t l (at.link t l i)) (len t l (at.link t l i))
        → pointing_inside t l i c ≡ tally t c (s t l (at.link t l i)) (at.gap t l i) + tally t c (s t l i) (len t l i)
    unfolding pointing_inside holder_plus holder_block holder_place last_level
    pointing-inside un ins =
        let o = len t l i - 1 in
        let pos = len-pos t k d l i hl hi in
        let p = d.points l i hl hi un in
        let w = target t k d l i o hi p (omega arith) in
        let one : o + 1 ≡ len t l i = omega arith in
        let u = up-to (H t - 1 - l) l (target_block t l i o) (target_place t l i o) c (omega arith) w.below w.kept w.inside hc h in
        rw un (rw u (rw one at (points-holder t k d l i o c hi un p (omega arith) ins)))

    -- The counts of the left neighbour are right.
    abbrev LeftTrue : Type 0
    LeftTrue =
        (at.before t l (i - 1) c ≡ tally t c (place_in_parent t l (s t l (i - 1))) (s t l (i - 1) - place_in_parent t l (s t l (i - 1))))
        × (at.inside t l (i - 1) c ≡ tally t c (s t l (i - 1)) (len t l (i - 1)))

    pub before-local : (1 ≤ i → LeftTrue) → before_local t l i c ≡ tally t c (place_in_parent t l (s t l i)) (s t l i - place_in_parent t l (s t l i))
    unfolding before_local
    before-local left = go (bool_cases (eqb (s t l i % up_length t l) 0))
      where
        up : ℕ
        up = place_in_parent t l (s t l i)

        go : (eqb (s t l i % up_length t l) 0 ≡ true) ⊎ (eqb (s t l i % up_length t l) 0 ≡ false) → before_local t l i c ≡ tally t c up (s t l i - up)
        go (inl e) =
            let z : s t l i - up ≡ 0 = omega (arith, at-parent t k d l i hl hi (eqb-true (s t l i % up_length t l) 0 e)) in
            rw (e, z) (sym (tally-none t c up))
        go (inr e) =
            let n = neighbour t k d l i hl hi (eqb-false (s t l i % up_length t l) 0 e) in
            let f = left n.low in
            let f₀ : at.before t l (i - 1) c ≡ tally t c up (s t l (i - 1) - up) = rw n.same_parent at f.0 in
            let two = tally-parts t c up (s t l (i - 1))
            (s t l (i - 1) - up) (len t l (i - 1)) (s t l i - up) (omega (arith, n.parent_low)) (omega (arith, n.parent_low, n.meets)) in
            rw e (omega (arith, f₀, f.1, two))

  -- One block's local equations, as facts.
  record Local (l i c : ℕ) : Type 0 where
    before-is : at.before t l i c ≡ before_local t l i c
    kept_skip : at.is_kept t l i ≡ true → at.skip t l i c ≡ 0
    kept_in : at.is_kept t l i ≡ true → at.inside t l i c ≡ kept_inside t l i c
    points_skip : at.is_kept t l i ≡ false → at.skip t l i c ≡ pointing_skip t l i c
    points_in : at.is_kept t l i ≡ false → at.skip t l i c + at.inside t l i c ≡ pointing_inside t l i c

  local-facts : (l i c : ℕ) → block_local t l i c ≡ true → Local l i c
  unfolding block_local kept_local pointing_local
  local-facts l i c h =
      let first = eqb (at.before t l i c) (before_local t l i c) in
      let rest = cond (at.is_kept t l i) (kept_local t l i c) (pointing_local t l i c) in
      let other : rest ≡ true = and_right first rest h in record {
        before-is = eqb-true _ _ (and_left first rest h);
        kept_skip = λ e. eqb-true _ _ (and_left (eqb (at.skip t l i c) 0) (eqb (at.inside t l i c) (kept_inside t l i c)) (rw e at other));
        kept_in = λ e. eqb-true _ _ (and_right (eqb (at.skip t l i c) 0) (eqb (at.inside t l i c) (kept_inside t l i c)) (rw e at other));
        points_skip = λ e. eqb-true _ _ (and_left (eqb (at.skip t l i c) (pointing_skip t l i c))
            (eqb (at.skip t l i c + at.inside t l i c) (pointing_inside t l i c)) (rw e at other));
        points_in = λ e. eqb-true _ _ (and_right (eqb (at.skip t l i c) (pointing_skip t l i c))
            (eqb (at.skip t l i c + at.inside t l i c) (pointing_inside t l i c)) (rw e at other));
      }

  kept-make : (l i c : ℕ) → at.is_kept t l i ≡ true
      → at.before t l i c ≡ before_local t l i c → at.skip t l i c ≡ 0 → at.inside t l i c ≡ kept_inside t l i c → block_local t l i c ≡ true
  unfolding block_local kept_local
  kept-make l i c kept e f g = rw kept (and_both (eq-eqb _ _ e) (and_both (eq-eqb _ _ f) (eq-eqb _ _ g)))

  points-make : (l i c : ℕ) → at.is_kept t l i ≡ false → at.before t l i c ≡ before_local t l i c → at.skip t l i c ≡ pointing_skip t l i c
      → at.skip t l i c + at.inside t l i c ≡ pointing_inside t l i c → block_local t l i c ≡ true
  unfolding block_local pointing_local
  points-make l i c un e f g = rw un (and_both (eq-eqb _ _ e) (and_both (eq-eqb _ _ f) (eq-eqb _ _ g)))

  -- One level, those below it true.
  module _ (l : ℕ) (hl : l < H t) (h : Below l) where
    abbrev Locals : Type 0
    Locals = (i c : ℕ) → i < N t l → c < at.counted_count t → Local l i c

    -- From the equations to the text's counts: inside of kept blocks, then of pointing ones, then before from left to right.

    kept-true : Locals → (i c : ℕ) → i < N t l → c < at.counted_count t → at.is_kept t l i ≡ true → at.inside t l i c ≡ tally t c (s t l i) (len t l i)
    kept-true a i c hi hc kept = (a i c hi hc).kept_in kept ∙ kept-inside l i c hl hi hc h kept

    inside-true : Locals → (i c : ℕ) → i < N t l → c < at.counted_count t → at.inside t l i c ≡ tally t c (s t l i) (len t l i)
    inside-true a i c hi hc = go (bool_cases (at.is_kept t l i))
      where
        go : (at.is_kept t l i ≡ true) ⊎ (at.is_kept t l i ≡ false) → at.inside t l i c ≡ tally t c (s t l i) (len t l i)
        go (inl kept) = kept-true a i c hi hc kept
        go (inr un) =
            let p = d.points l i hl hi un in
            let ins = kept-true a (at.link t l i) c p.target_below hc p.target_kept in
            let e = a i c hi hc in
            omega (arith, e.points_skip un, e.points_in un, pointing-skip l i c hl hi hc h un, pointing-inside l i c hl hi hc h un ins)

    skip-true : Locals → (i c : ℕ) → i < N t l → c < at.counted_count t
        → at.skip t l i c ≡ cond (at.is_kept t l i) 0 (tally t c (s t l (at.link t l i)) (at.gap t l i))
    skip-true a i c hi hc = go (bool_cases (at.is_kept t l i))
      where
        go : (at.is_kept t l i ≡ true)
            ⊎ (at.is_kept t l i ≡ false) → at.skip t l i c ≡ cond (at.is_kept t l i) 0 (tally t c (s t l (at.link t l i)) (at.gap t l i))
        go (inl kept) = rw kept ((a i c hi hc).kept_skip kept)
        go (inr un) = rw un ((a i c hi hc).points_skip un ∙ pointing-skip l i c hl hi hc h un)

    abbrev BeforeTrue : ℕ → ℕ → Type 0
    BeforeTrue i c = at.before t l i c ≡ tally t c (place_in_parent t l (s t l i)) (s t l i - place_in_parent t l (s t l i))

    before-step : Locals → (i c : ℕ) → i < N t l → c < at.counted_count t → (1 ≤ i → BeforeTrue (i - 1) c) → BeforeTrue i c
    before-step a i c hi hc left = (a i c hi hc).before-is ∙ before-local l i c hl hi hc h (λ low. (left low, inside-true a (i - 1) c (omega arith) hc))

    before-true : Locals → (i c : ℕ) → i < N t l → c < at.counted_count t → BeforeTrue i c
    before-true a zero c hi hc = before-step a 0 c hi hc (λ low. absurd (let z : ⊥ = omega arith in z))
    before-true a (suc i) c hi hc =
        let e : suc i - 1 ≡ i = omega arith in
        let f : BeforeTrue i c = before-true a i c (omega arith) hc in
        before-step a (suc i) c hi hc (λ low. rw e f)

    pub level-true : level_local t l ≡ true → Level t l
    unfolding level_local
    level-true e i c hi hc =
        let a : Locals = λ x y hx hy. local-facts l x y (all_below-at (at.counted_count t) (block_local t l x)
        (all_below-at (N t l) (λ z. all_below (at.counted_count t) (block_local t l z)) e x hx) y hy) in
        record { before-is = before-true a i c hi hc; inside_is = inside-true a i c hi hc; skip_is = skip-true a i c hi hc }

    -- The converse.

    block-local : Level t l → (i c : ℕ) → i < N t l → c < at.counted_count t → block_local t l i c ≡ true
    block-local a i c hi hc = go (bool_cases (at.is_kept t l i))
      where
        e : Block t l i c
        e = a i c hi hc

        first : at.before t l i c ≡ before_local t l i c
        first = e.before-is ∙ sym (before-local l i c hl hi hc h (λ low. ((a (i - 1) c (omega arith) hc).before-is, (a (i - 1) c (omega arith) hc).inside_is)))

        go : (at.is_kept t l i ≡ true) ⊎ (at.is_kept t l i ≡ false) → block_local t l i c ≡ true
        go (inl kept) = kept-make l i c kept first (e.skip_is ∙ rw kept) (e.inside_is ∙ sym (kept-inside l i c hl hi hc h kept))
        go (inr un) =
            let p = d.points l i hl hi un in
            let sk : at.skip t l i c ≡ tally t c (s t l (at.link t l i)) (at.gap t l i) = e.skip_is ∙ rw un in
            let ins = (a (at.link t l i) c p.target_below hc).inside_is in
            points-make l i c un first (sk ∙ sym (pointing-skip l i c hl hi hc h un)) (omega (arith, sk, e.inside_is, pointing-inside l i c hl hi hc h un ins))

    pub level-local : Level t l → level_local t l ≡ true
    unfolding level_local
    level-local a = all_below-make (N t l) _ (λ i hi. all_below-make (at.counted_count t) _ (λ c hc. block-local a i c hi hc))

  -- All levels, from the last one up.

  levels-true : ((l : ℕ) → l < H t → level_local t l ≡ true) → (n l : ℕ) → l < H t → H t ≤ l + n → Level t l
  levels-true a zero l hl near = absurd (let z : ⊥ = omega arith in z)
  levels-true a (suc n) l hl near = level-true l hl (λ m lt hm. levels-true a n m hm (omega arith)) (a l hl)

  local-true : counts_local t ≡ true → counts_true (text_of t) t ≡ true
  unfolding counts_local
  local-true e = counts-make t (λ l hl. levels-true (λ m hm. all_below-at (H t) (level_local t) e m hm) (H t) l hl (omega arith))

  true-local : counts_true (text_of t) t ≡ true → counts_local t ≡ true
  unfolding counts_local
  true-local e = all_below-make (H t) _ (λ l hl. level-local l hl (λ m lt hm. counts-facts t e m hm) (counts-facts t e l hl))

  same_test : (x y : Bool) → (x ≡ true → y ≡ true) → (y ≡ true → x ≡ true) → x ≡ y
  same_test true y f g = sym (f refl)
  same_test false true f g = g refl
  same_test false false f g = refl

  pub counts-exact : counts_local t ≡ counts_true (text_of t) t
  counts-exact = same_test (counts_local t) (counts_true (text_of t) t) local-true true-local
