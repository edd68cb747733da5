-- Where the blocks of a tree that passes questions 5 to 8 are in the text: parents, children, starts and lengths.
use Rattle.std.specs.Prelude.{List, true, false, ◌≡◌, ◌⊎◌, ℕ, zero, suc, ◌+◌, ◌-◌, ◌*◌, ◌/◌, ◌%◌, ◌≤◌, ◌<◌}
use Rattle.std.proofs.Common.{◌∙◌, inl, inr, div-add-mod', mod-lt, mul_assoc}
use native.Mathlib.Omega.{arith}
use Rattle.std.proofs.Math.Nat.{mul-le-mul_right, mul_comm, add-mul, lt_of_mul-lt-mul_left}
use Rattle.std.proofs.Math.Arith.{digits_div, digits_mod}
use Rattle.text.specs.Text.{sum_below}
use Rattle.text.specs.ListLaws.{bool_cases, sum_below-part, sum_below-find}
use Rattle.format.specs.PieceLaws.{pieces-hold, pieces-start}
use Rattle.format.specs.LayoutLaws.{Readable, full-step, full-pos}
use Rattle.format.specs.Layout as at
use Rattle.format.specs.TreeReading.{width_at}
use Rattle.theory_paths.specs.Links.{H, N, b, s, len, width-kept, width-last, width-pointing, Follows, Pointing, Linked}

module _ (t : List ℕ) where
  -- A block's length is the smaller of b and n - start.

  pub len-small : (l i : ℕ) → len t l i ≤ b t l
  unfolding at.block_length_at
  len-small l i = omega arith

  pub len-inside : (l i o : ℕ) → o < len t l i → s t l i + o < at.text_length t
  unfolding at.block_length_at
  len-inside l i o h = omega arith

  pub len-reach : (l i o : ℕ) → o < b t l → s t l i + o < at.text_length t → o < len t l i
  unfolding at.block_length_at
  len-reach l i o h k = omega arith

  pub len-end : (l i : ℕ) → s t l i ≤ at.text_length t → s t l i + len t l i ≤ at.text_length t
  unfolding at.block_length_at
  len-end l i h = omega arith

  -- Block a of level l is kept, and block i of the next level is its child number j.
  pub record Parent (l i a j : ℕ) : Type 0 where
    pub below : a < N t l
    pub kept : at.is_kept t l a ≡ true
    pub number : i ≡ at.link t l a + j
    pub start_is : s t (l + 1) i ≡ s t l a + j * b t (l + 1)
    pub within : j * b t (l + 1) < len t l a

  module _ (k : Readable t) (d : Linked t) where
    -- Each block below level 0 is a child.
    pub parent : (l i : ℕ) → l + 1 < H t → i < N t (l + 1) → (a j : ℕ) × Parent l i a j
    parent l i hl hi =
        let f = sum_below-find (N t l) (width_at t l) i (rw (d.next_count l hl) hi) in
        (f.0, f.1, go f.0 f.1 f.2 f.3 f.4 (bool_cases (at.is_kept t l f.0)))
      where
        go : (a j : ℕ) → a < N t l
            → j < width_at t l a → i ≡ sum_below a (width_at t l) + j → (at.is_kept t l a ≡ true) ⊎ (at.is_kept t l a ≡ false) → Parent l i a j
        go a j ha hj e (inl kept) =
            let q = d.kept l a (omega arith) ha kept in
            let number : i ≡ at.link t l a + j = omega (arith, q.link_is) in record {
              below = ha;
              kept = kept;
              number = number;
              start_is = rw number (q.child_start hl j hj);
              within = pieces-start (len t l a) (b t (l + 1)) j (rw (width-kept t l a hl kept) at hj) (full-pos t k (l + 1));
            }
        go a j ha hj e (inr un) = absurd (let z : ⊥ = omega (arith, width-pointing t l a un) in z)

    -- Place o of a child is a place of its parent, which leads to the child at o again.
    pub record InParent (l a j o : ℕ) : Type 0 where
      pub inside : j * b t (l + 1) + o < len t l a
      pub back : (j * b t (l + 1) + o) / b t (l + 1) ≡ j
      pub rest : (j * b t (l + 1) + o) % b t (l + 1) ≡ o

    pub in-parent : (l i a j o : ℕ) → l + 1 < H t → Parent l i a j → o < len t (l + 1) i → InParent l a j o
    in-parent l i a j o hl p ho =
        let c = b t (l + 1) in
        let r = (at.settings t).arity in
        let full : b t l ≡ c * r = full-step t k l hl in
        let small : o < c = omega (arith, len-small (l + 1) i) in
        let few : c * j < c * r = omega (arith, len-small l a, p.within, mul_comm j c) in
        let less : j < r = lt_of_mul-lt-mul_left c few in
        let next : (j + 1) * c ≤ r * c = mul-le-mul_right c (omega arith) in record {
          inside = len-reach l a (j * c + o) (omega (arith, add-mul j 1 c, mul_comm r c)) (omega (arith, len-inside (l + 1) i o ho, p.start_is));
          back = digits_div j small;
          rest = digits_mod j small;
        }

    -- Every block starts before the text's end.
    pub start-below : (l i : ℕ) → l < H t → i < N t l → s t l i < at.text_length t
    start-below zero i hl hi = rw (d.start0 i hi) (pieces-start (at.text_length t) (b t 0) i (rw k.level0 at hi) (full-pos t k 0))
    start-below (suc l) i hl hi =
        let e : suc l ≡ l + 1 = omega arith in
        let p = parent l i (omega arith) (rw e at hi) in
        rw e (rw p.2.start_is (len-inside l p.0 (p.1 * b t (l + 1)) p.2.within))

    pub len-pos : (l i : ℕ) → l < H t → i < N t l → 0 < len t l i
    len-pos l i hl hi = len-reach l i 0 (full-pos t k l) (omega (arith, start-below l i hl hi))

    -- A block starts at a multiple of its block length.
    pub start-multiple : (l i : ℕ) → l < H t → i < N t l → (q : ℕ) × (s t l i ≡ q * b t l)
    start-multiple zero i hl hi = (i, d.start0 i hi)
    start-multiple (suc l) i hl hi =
        let e : suc l ≡ l + 1 = omega arith in
        let hl₁ : l + 1 < H t = omega arith in
        let p = parent l i hl₁ (rw e at hi) in
        let m = start-multiple l p.0 (omega arith) p.2.below in
        rw e (
          m.0 * (at.settings t).arity + p.1,
          p.2.start_is ∙ rw (m.1, full-step t k l hl₁, add-mul, mul_assoc, mul_comm (b t (l + 1)) (at.settings t).arity),
        )

    -- The start of a block's parent, read off the block's own start.
    pub parent-start : (l i a j : ℕ) → l + 1 < H t → Parent l i a j → s t (l + 1) i / b t l * b t l ≡ s t l a
    parent-start l i a j hl p =
        let m = start-multiple l a (omega arith) p.below in
        let e : s t (l + 1) i ≡ m.0 * b t l + j * b t (l + 1) = p.start_is ∙ rw m.1 in
        let small : j * b t (l + 1) < b t l = omega (arith, p.within, len-small l a) in
        rw (e, digits_div m.0 small, m.1)

    -- A kept block's places lead to children, on the last level to leaf bytes.

    -- Block c of the next level at place p is where place o of block a leads.
    pub record Child (l a o c p : ℕ) : Type 0 where
      pub below : c < N t (l + 1)
      pub inside : p < len t (l + 1) c
      pub same_place : s t (l + 1) c + p ≡ s t l a + o

    pub child : (l a o : ℕ) → l + 1 < H t → a < N t l → at.is_kept t l a ≡ true → o < len t l a
        → Child l a o (at.link t l a + o / b t (l + 1)) (o % b t (l + 1))
    child l a o hl ha kept ho =
        let c = b t (l + 1) in
        let q = d.kept l a (omega arith) ha kept in
        let part = sum_below-part (N t l) (width_at t l) a ha in
        let wide : o / c < width_at t l a = rw (width-kept t l a hl kept) (pieces-hold (len t l a) c o (full-pos t k (l + 1)) ho) in
        let start = q.child_start hl (o / c) wide in
        let whole = div-add-mod' o c in record {
          below = omega (arith, q.link_is, d.next_count l hl);
          inside = len-reach (l + 1) (at.link t l a + o / c) (o % c) (mod-lt o (full-pos t k (l + 1))) (omega (arith, len-inside l a o ho));
          same_place = omega arith;
        }

    pub last-kept : (i : ℕ) → i < N t (H t - 1) → at.is_kept t (H t - 1) i ≡ true
    last-kept i hi = go (bool_cases (at.is_kept t (H t - 1) i))
      where
        go : (at.is_kept t (H t - 1) i ≡ true) ⊎ (at.is_kept t (H t - 1) i ≡ false) → at.is_kept t (H t - 1) i ≡ true
        go (inl kept) = kept
        go (inr un) = absurd (let z : ⊥ = omega (arith, (d.points (H t - 1) i (omega (arith, k.bounds.levels_low)) hi un).above) in z)

    pub leaf-below : (i o : ℕ) → i < N t (H t - 1) → o < len t (H t - 1) i → at.link t (H t - 1) i + o < at.leaf_count t
    leaf-below i o hi ho =
        let kept = last-kept i hi in
        let low : 0 < H t = omega (arith, k.bounds.levels_low) in
        let q = d.kept (H t - 1) i (omega arith) hi kept in
        omega (arith, q.link_is, d.leaf-count low, width-last t i kept, sum_below-part (N t (H t - 1)) (width_at t (H t - 1)) i hi)

    -- A pointing block's places lead into its target, or past that one's end into the next.

    pub first-inside : (l i o : ℕ) → Pointing t l i → i < N t l → o < len t l i → at.gap t l i + o < b t l → at.gap t l i + o < len t l (at.link t l i)
    first-inside l i o p hi ho h =
        len-reach l (at.link t l i) (at.gap t l i + o) h (omega (arith, p.ends, p.above, start-below l i (omega (arith, p.above)) hi))

    pub second-inside : (l i o : ℕ) → Pointing t l i → Follows t l (at.link t l i) → i < N t l → o < len t l i → b t l ≤ at.gap t l i + o
        → at.gap t l i + o - b t l < len t l (at.link t l i + 1)
    second-inside l i o p f hi ho h =
        len-reach l (at.link t l i + 1) (at.gap t l i + o - b t l) (omega (arith, p.gap_small, len-small l i))
        (omega (arith, p.ends, f.start_is, start-below l i (omega (arith, p.above)) hi))

    -- A target is a full block.
    pub target-full : (l i : ℕ) → Pointing t l i → i < N t l → len t l (at.link t l i) ≡ b t l
    unfolding at.block_length_at
    target-full l i p hi =
        let hl : l < H t = omega (arith, p.above) in
        let c = b t l in
        let q = start-multiple l i hl hi in
        let q₁ = start-multiple l (at.link t l i) hl p.target_below in
        let less : c * q₁.0 < c * q.0 = omega (arith, q.1, q₁.1, mul_comm q.0 c, mul_comm q₁.0 c, p.ends, len-pos l i hl hi) in
        let fewer : q₁.0 < q.0 = lt_of_mul-lt-mul_left c less in
        let full : (q₁.0 + 1) * c ≤ q.0 * c = mul-le-mul_right c (omega arith) in
        omega (arith, q.1, q₁.1, add-mul q₁.0 1 c, start-below l i hl hi)
