-- The converse of `linked-facts`: the facts about a tree's blocks make question 8 pass.
use Rattle.std.specs.Prelude.{List, ◌&&◌, ◌||◌, ◌≡◌, ◌⊎◌, ltb, leb}
use Rattle.std.proofs.Math.Bool.{Bool, true, false, cond}
use Rattle.std.proofs.Math.Path.{refl}
use Rattle.std.proofs.Common.{inl, inr, arith}
use Prim.Native.Nat.{ℕ, ◌+◌, ◌-◌, ◌*◌, ◌≤◌, ◌<◌}
use borrow.Author.Tests.{eq-eqb, ne_eqb, le-leb, lt-ltb}
use Rattle.std.proofs.Math.Dec.{eqb}
use Rattle.text.specs.Text.{all_below, sum_below}
use Rattle.text.specs.ListLaws.{and_both, or_left, or_right, not-eq-true, lt-or-ge, all_below-make}
use Rattle.format.specs.Layout as at
use Rattle.format.specs.TreeReading.{last_level, width_at, kept_right, pointing_right, block_right, count_below_right, links_ok}
use Rattle.theory_paths.specs.Links.{H, N, b, s, len, Kept, Pointing, Linked}

module _ (t : List ℕ) where
  -- A level is the last one, or another follows.
  upper-or-last : (l : ℕ) → l < H t → (l + 1 < H t) ⊎ (l ≡ H t - 1)
  upper-or-last l h = go (lt-or-ge (l + 1) (H t))
    where
      go : (l + 1 < H t) ⊎ (H t ≤ l + 1) → (l + 1 < H t) ⊎ (l ≡ H t - 1)
      go (inl z) = inl z
      go (inr z) = inr (omega arith)

  kept-right : (l i : ℕ) → l < H t → Kept t l i → kept_right t l i ≡ true
  unfolding kept_right last_level
  kept-right l i h k = and_both (and_both (eq-eqb _ _ k.link_is) (eq-eqb _ _ k.gap_is)) (go (upper-or-last l h))
    where
      children : ℕ → Bool
      children j = eqb (s t (l + 1) (at.link t l i + j)) (s t l i + j * b t (l + 1))

      go : (l + 1 < H t) ⊎ (l ≡ H t - 1) → (eqb l (H t - 1) || all_below (width_at t l i) children) ≡ true
      go (inl z) = or_right (eqb l (H t - 1)) (all_below-make (width_at t l i) children (λ j hj. eq-eqb _ _ (k.child_start z j hj)))
      go (inr z) = or_left _ (eq-eqb l (H t - 1) z)

  pointing-right : (l i : ℕ) → Pointing t l i → pointing_right t l i ≡ true
  unfolding pointing_right last_level
  pointing-right l i p =
      and_both (and_both (and_both (and_both (eq-eqb _ _ p.kind_is) (not-eq-true (ne_eqb l (H t - 1) (λ e. omega (arith, p.above)))))
      (lt-ltb _ _ p.gap_small))
      (and_both (and_both (lt-ltb _ _ p.target_below) p.target_kept) (le-leb _ _ p.ends)))
      (go (lt-or-ge (b t l) (at.gap t l i + len t l i)))
    where
      j : ℕ
      j = at.link t l i

      short : Bool
      short = leb (at.gap t l i + len t l i) (b t l)

      next : Bool
      next = ltb (j + 1) (N t l) && at.is_kept t l (j + 1) && eqb (s t l (j + 1)) (s t l j + b t l)

      go : (b t l < at.gap t l i + len t l i) ⊎ (at.gap t l i + len t l i ≤ b t l) → (short || next) ≡ true
      go (inl z) =
          let f = p.next z in
          or_right short (and_both (and_both (lt-ltb (j + 1) (N t l) f.below) f.kept) (eq-eqb _ _ f.start_is))
      go (inr z) = or_left next (le-leb _ _ z)

  module _ (d : Linked t) where
    block-right : (l i : ℕ) → l < H t → i < N t l → block_right t l i ≡ true
    unfolding block_right
    block-right l i hl hi = go (at.is_kept t l i) refl
      where
        go : (y : Bool) → at.is_kept t l i ≡ y → cond y (kept_right t l i) (pointing_right t l i) ≡ true
        go true e = kept-right l i hl (d.kept l i hl hi e)
        go false e = pointing-right l i (d.points l i hl hi e)

    count-right : (l : ℕ) → l < H t → count_below_right t l ≡ true
    unfolding count_below_right last_level
    count-right l hl = go (upper-or-last l hl)
      where
        last : (x : ℕ) → x ≡ H t - 1 → eqb (sum_below (N t x) (width_at t x)) (cond (eqb x (H t - 1)) (at.leaf_count t) (N t (x + 1))) ≡ true
        last x z = rw (z, eq-eqb (H t - 1) (H t - 1) refl) (eq-eqb _ _ (d.leaf-count (omega arith)))

        go : (l + 1 < H t) ⊎ (l ≡ H t - 1) → eqb (sum_below (N t l) (width_at t l)) (cond (eqb l (H t - 1)) (at.leaf_count t) (N t (l + 1))) ≡ true
        go (inl z) = rw (ne_eqb l (H t - 1) (λ e. omega arith)) (eq-eqb _ _ (d.next_count l z))
        go (inr z) = last l z

    pub linked-make : links_ok t ≡ true
    unfolding links_ok
    linked-make =
        and_both (all_below-make (N t 0) _ (λ i hi. eq-eqb _ _ (d.start0 i hi)))
        (all_below-make (H t) _ (λ l hl. and_both (count-right l hl) (all_below-make (N t l) (block_right t l) (λ i hi. block-right l i hl hi))))
