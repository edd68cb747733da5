-- Counts in a pointing block, and in the kept blocks that it points to.
use Rattle.std.specs.Prelude.{List, true, false, cond, ◌≡◌, refl, ◌⊎◌, ℕ, ◌+◌, ◌-◌, ◌≤◌, ◌<◌, ltb}
use Rattle.std.proofs.Common.{ap, ◌∙◌, inl, inr, arith, lt-ltb, le-ltb}
use Rattle.text.specs.ListLaws.{bool_cases, lt-or-ge}
use Rattle.format.specs.LayoutLaws.{Readable}
use Rattle.format.specs.Layout as at
use Rattle.format.specs.TreeReading.{target_block, target_place}
use Rattle.theory_paths.specs.Links.{H, N, b, s, len, Pointing, Linked}
use Rattle.theory_paths.specs.BlockStarts.{target-full}
use Rattle.theory_paths.specs.PlacesResolved.{target, target_first, target-second}
use Rattle.theory_counts.specs.CountsLocal.{holder_block, holder_place, holder_plus, holder_minus}
use Rattle.theory_counts.specs.LevelTrue.{tally, Block, Level}
use Rattle.theory_counts.specs.CountedSubstrings.{tally-parts, points-tally}

module _ (t : List ℕ) where
  module _ (k : Readable t) (d : Linked t) where
    -- The skip and the count up to place o of a pointing block, together, by the count up to the target place.
    pub points-holder : (l i o c : ℕ) → i < N t l → at.is_kept t l i ≡ false → Pointing t l i → o < len t l i
        → at.inside t l (at.link t l i) c ≡ tally t c (s t l (at.link t l i)) (len t l (at.link t l i))
        → cond (ltb (at.gap t l i + o) (b t l)) 0 (at.inside t l (at.link t l i) c) + tally t c (s t l (target_block t l i o)) (target_place t l i o + 1)
        ≡ tally t c (s t l (at.link t l i)) (at.gap t l i) + tally t c (s t l i) (o + 1)
    points-holder l i o c hi un p ho ins = go (lt-or-ge (at.gap t l i + o) (b t l))
      where
        hl : l < H t
        hl = omega (arith, p.above)

        j : ℕ
        j = at.link t l i

        g : ℕ
        g = at.gap t l i

        whole : tally t c (s t l j) (g + o + 1) ≡ tally t c (s t l j) g + tally t c (s t l i) (o + 1)
        whole = omega (
          arith,
          tally-parts t c (s t l j) (s t l j + g) g (o + 1) (g + o + 1) refl (omega arith),
          points-tally t k d l i (o + 1) c hi un (omega arith) hl,
        )

        go : (g + o < b t l) ⊎ (b t l ≤ g + o)
            → cond (ltb (g + o) (b t l)) 0 (at.inside t l j c) + tally t c (s t l (target_block t l i o)) (target_place t l i o + 1)
            ≡ tally t c (s t l j) g + tally t c (s t l i) (o + 1)
        go (inl h) = let e = target_first t l i o h in rw (lt-ltb _ _ h, e.0, e.1) (omega (arith, whole))
        go (inr h) =
            let e = target-second t l i o h in
            let f = p.next (omega arith) in
            let full = target-full t k d l i p hi in
            let in₁ : at.inside t l j c ≡ tally t c (s t l j) (b t l) = ins ∙ ap (tally t c (s t l j)) full in
            let two = tally-parts t c (s t l j) (s t l (j + 1)) (b t l) (g + o - b t l + 1) (g + o + 1) f.start_is (omega arith) in
            rw (le-ltb _ _ h, e.0, e.1) (omega (arith, whole, in₁, two))

    -- A place of a block refers to a kept block of its level.
    pub record HolderCounts (l i o c : ℕ) : Type 0 where
      pub below : holder_block t l i o < N t l
      pub kept : at.is_kept t l (holder_block t l i o) ≡ true
      pub inside : holder_place t l i o < len t l (holder_block t l i o)
      pub count : holder_plus t l i o c + tally t c (s t l (holder_block t l i o)) (holder_place t l i o + 1) ≡ holder_minus t l i c + tally t c (s t l i) (o + 1)

    pub holder-counts-kept : (l i o c : ℕ) → i < N t l → at.is_kept t l i ≡ true → o < len t l i → HolderCounts l i o c
    unfolding holder_block holder_place holder_plus holder_minus
    holder-counts-kept l i o c hi kept ho =
        let e₁ : holder_block t l i o ≡ i = rw kept in
        let e₂ : holder_place t l i o ≡ o = rw kept in
        record { below = rw e₁ hi; kept = rw e₁ kept; inside = rw (e₁, e₂) ho; count = rw kept (omega arith) }

    pub holder-counts-points : (l i o c : ℕ) → l < H t → i < N t l → at.is_kept t l i ≡ false → o < len t l i
        → at.inside t l (at.link t l i) c ≡ tally t c (s t l (at.link t l i)) (len t l (at.link t l i))
        → at.skip t l i c ≡ tally t c (s t l (at.link t l i)) (at.gap t l i) → HolderCounts l i o c
    unfolding holder_block holder_place holder_plus holder_minus
    holder-counts-points l i o c hl hi un ho ins sk =
        let p = d.points l i hl hi un in
        let w = target t k d l i o hi p ho in
        let e₁ : holder_block t l i o ≡ target_block t l i o = rw un in
        let e₂ : holder_place t l i o ≡ target_place t l i o = rw un in
        record {
          below = rw e₁ w.below;
          kept = rw e₁ w.kept;
          inside = rw (e₁, e₂) w.inside;
          count = rw un (omega (arith, points-holder l i o c hi un p ho ins, sk));
        }

    -- Where the level's counts are true.
    pub skip-points : (l i c : ℕ) → at.is_kept t l i ≡ false → Block t l i c → at.skip t l i c ≡ tally t c (s t l (at.link t l i)) (at.gap t l i)
    skip-points l i c un h = h.skip_is ∙ rw un

    pub holder-counts : (l i o c : ℕ) → l < H t → i < N t l → o < len t l i → c < at.counted_count t → Level t l → HolderCounts l i o c
    holder-counts l i o c hl hi ho hc h = go (bool_cases (at.is_kept t l i))
      where
        go : (at.is_kept t l i ≡ true) ⊎ (at.is_kept t l i ≡ false) → HolderCounts l i o c
        go (inl kept) = holder-counts-kept l i o c hi kept ho
        go (inr un) =
            let p = d.points l i hl hi un in
            holder-counts-points l i o c hl hi un ho (h (at.link t l i) c p.target_below hc).inside_is (skip-points l i c un (h i c hi hc))
