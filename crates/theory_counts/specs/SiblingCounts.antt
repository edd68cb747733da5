-- Counts along a family of blocks: from a parent to a child, from a block to its left neighbour.
use Rattle.std.specs.Prelude.{List, true, ◌≡◌, refl, ◌⊎◌}
use Rattle.std.proofs.Common.{sym, ◌∙◌, mul_comm, zero-mul, add-zero}
use Rattle.std.proofs.Math.Path.{ap}
use Rattle.std.proofs.Math.Logic.{inl, inr}
use Prim.Native.Nat.{ℕ, zero, suc, ◌+◌, ◌-◌, ◌*◌, ◌/◌, ◌%◌, ◌≤◌, ◌<◌}
use native.Mathlib.Omega.{arith}
use Rattle.std.proofs.Math.Numerals.{add-one}
use Rattle.std.proofs.Math.Nat.{pos_of_ne-zero, div-add-mod', mod-eq_of_lt, add-mul, div-mul-le_self, one-mul, mul-mod_left}
use Rattle.std.proofs.Math.Arith.{mul_pred, digits_mod}
use Rattle.text.specs.ListLaws.{lt-or-ge}
use Rattle.format.specs.PieceLaws.{lt-pieces}
use Rattle.format.specs.LayoutLaws.{Readable, full-pos, full-step}
use Rattle.format.specs.Layout as at
use Rattle.format.specs.TreeReading.{width_at}
use Rattle.theory_paths.specs.Links.{H, N, b, s, len, width-kept, Linked}
use Rattle.theory_paths.specs.BlockStarts.{len-small, len-end, Parent, parent, parent-start, start-below, start-multiple, len-pos, Child, child}
use Rattle.theory_counts.specs.CountsLocal.{up_length, last_child}
use Rattle.theory_counts.specs.LevelTrue.{tally, place_in_parent, Block}
use Rattle.theory_counts.specs.CountedSubstrings.{tally-parts}

module _ (t : List ℕ) where
  pub place-under : (l p : ℕ) → place_in_parent t (l + 1) p ≡ p / b t l * b t l
  unfolding place_in_parent
  place-under l p = rw add-one

  pub up-under : (l : ℕ) → up_length t (l + 1) ≡ b t l
  unfolding up_length
  up-under l = rw add-one

  module _ (k : Readable t) (d : Linked t) where
    -- Parents and children.

    -- Where a block that starts within a kept block's length is its child.
    pub child-of : (l a j : ℕ) → l + 1 < H t → a < N t l → at.is_kept t l a ≡ true → j * b t (l + 1) < len t l a → Parent t l (at.link t l a + j) a j
    child-of l a j hl ha kept h =
        let pos : 0 < b t (l + 1) = full-pos t k (l + 1) in
        let q = d.kept l a (omega arith) ha kept in
        let wide : j < width_at t l a = rw (width-kept t l a hl kept) (lt-pieces (len t l a) (b t (l + 1)) j pos h) in
        record { below = ha; kept = kept; number = refl; start_is = q.child_start hl j wide; within = h }

    pub parent_place : (l i a j : ℕ) → l + 1 < H t → Parent t l i a j → place_in_parent t (l + 1) (s t (l + 1) i) ≡ s t l a
    parent_place l i a j hl p = place-under l (s t (l + 1) i) ∙ parent-start t k d l i a j hl p

    -- The bytes before a child, and those in it up to a place.
    pub child-tally : (l a j c x : ℕ) → l + 1 < H t → Parent t l (at.link t l a + j) a j → Block t (l + 1) (at.link t l a + j) c
        → tally t c (s t l a) (j * b t (l + 1) + x) ≡ at.before t (l + 1) (at.link t l a + j) c + tally t c (s t (l + 1) (at.link t l a + j)) x
    child-tally l a j c x hl p h =
        let i = at.link t l a + j in
        let e : s t (l + 1) i - s t l a ≡ j * b t (l + 1) = omega (arith, p.start_is) in
        let f : at.before t (l + 1) i c ≡ tally t c (s t l a) (j * b t (l + 1)) = rw e at (rw (parent_place l i a j hl p) at h.before-is) in
        omega (arith, tally-parts t c (s t l a) (s t (l + 1) i) (j * b t (l + 1)) x (j * b t (l + 1) + x) p.start_is refl)

    -- To a place o of the parent.
    pub kept_step : (l a o c : ℕ) → l + 1 < H t → a < N t l → at.is_kept t l a ≡ true → o < len t l a → Block t (l + 1) (at.link t l a + o / b t (l + 1)) c
        → at.before t (l + 1) (at.link t l a + o / b t (l + 1)) c + tally t c (s t (l + 1) (at.link t l a + o / b t (l + 1))) (o % b t (l + 1) + 1)
        ≡ tally t c (s t l a) (o + 1)
    kept_step l a o c hl ha kept ho h =
        let j = o / b t (l + 1) in
        let whole = div-add-mod' o (b t (l + 1)) in
        let p = child-of l a j hl ha kept (omega arith) in
        let e : j * b t (l + 1) + (o % b t (l + 1) + 1) ≡ o + 1 = omega arith in
        sym (rw e at (child-tally l a j c (o % b t (l + 1) + 1) hl p h))

    -- The last child ends where the block ends.
    full-last : (l : ℕ) → l + 1 < H t → (b t l - 1) % b t (l + 1) ≡ b t (l + 1) - 1
    full-last l hl =
        let c = b t (l + 1) in
        let r = (at.settings t).arity in
        let end : r * c - 1 ≡ (r - 1) * c + (c - 1) = mul_pred {p = r} {c = c} (omega (arith, k.bounds.arity_low)) (full-pos t k (l + 1)) in
        let small : c - 1 < c = omega (arith, full-pos t k (l + 1)) in
        rw (full-step t k l hl, mul_comm c r, end) (digits_mod (r - 1) small)

    block_is : (l i : ℕ) → (len t l i ≡ b t l) ⊎ (len t l i ≡ at.text_length t - s t l i)
    unfolding at.block_length_at
    block_is l i = go (lt-or-ge (at.text_length t - s t l i) (b t l))
      where
        go : (at.text_length t - s t l i < b t l) ⊎ (b t l ≤ at.text_length t - s t l i) → (len t l i ≡ b t l) ⊎ (len t l i ≡ at.text_length t - s t l i)
        go (inl h) = inr (omega arith)
        go (inr h) = inl (omega arith)

    last-child-end : (l a : ℕ) → l + 1 < H t → a < N t l → at.is_kept t l a ≡ true
        → s t (l + 1) (last_child t l a) + len t (l + 1) (last_child t l a) ≡ s t l a + len t l a
    unfolding last_child
    last-child-end l a hl ha kept =
        go (child t k d l a (len t l a - 1) hl ha kept (omega (arith, len-pos t k d l a (omega arith) ha))) (block_is l a)
      where
        j : ℕ
        j = last_child t l a

        go : Child t k d l a (len t l a - 1) j ((len t l a - 1) % b t (l + 1)) → (len t l a ≡ b t l) ⊎ (len t l a ≡ at.text_length t - s t l a)
            → s t (l + 1) j + len t (l + 1) j ≡ s t l a + len t l a
        go q (inl e) =
            let f : (len t l a - 1) % b t (l + 1) ≡ b t (l + 1) - 1 = rw e (full-last l hl) in
            omega (arith, q.inside, q.same_place, len-small t (l + 1) j, full-pos t k (l + 1), len-pos t k d l a (omega arith) ha)
        go q (inr e) =
            omega (
              arith,
              q.inside,
              q.same_place,
              len-pos t k d l a (omega arith) ha,
              len-end t (l + 1) j (omega (arith, start-below t k d (l + 1) j hl q.below)),
            )

    -- A kept block's count is its last child's before and inside.
    pub last-child-tally : (l a c : ℕ) → l + 1 < H t → a < N t l → at.is_kept t l a ≡ true → Block t (l + 1) (last_child t l a) c
        → at.before t (l + 1) (last_child t l a) c + at.inside t (l + 1) (last_child t l a) c ≡ tally t c (s t l a) (len t l a)
    unfolding last_child
    last-child-tally l a c hl ha kept h =
        let q = (len t l a - 1) / b t (l + 1) in
        let pos = len-pos t k d l a (omega arith) ha in
        let p = child-of l a q hl ha kept (omega (arith, div-mul-le_self (len t l a - 1) (b t (l + 1)))) in
        let j = at.link t l a + q in
        let e : q * b t (l + 1) + len t (l + 1) j ≡ len t l a = omega (arith, last-child-end l a hl ha kept, p.start_is) in
        omega (arith, rw e at (child-tally l a q c (len t (l + 1) j) hl p h), h.inside_is)

    -- Siblings.

    -- A block that starts where its parent starts.
    pub at-parent : (l i : ℕ) → l < H t → i < N t l → s t l i % up_length t l ≡ 0 → place_in_parent t l (s t l i) ≡ s t l i
    unfolding up_length place_in_parent
    at-parent zero i hl hi e = omega (arith, mod-eq_of_lt (start-below t k d 0 i hl hi))
    at-parent (suc l) i hl hi e = omega (arith, div-add-mod' (s t (suc l) i) (b t l))

    -- Any other has a left neighbour under the same parent, which ends where it starts.
    pub record Neighbour (l i : ℕ) : Type 0 where
      pub low : 1 ≤ i
      pub same_parent : place_in_parent t l (s t l (i - 1)) ≡ place_in_parent t l (s t l i)
      pub parent_low : place_in_parent t l (s t l i) ≤ s t l (i - 1)
      pub meets : s t l (i - 1) + len t l (i - 1) ≡ s t l i

    -- A block that is full where another starts within the text.
    full-before : (l i x : ℕ) → s t l i + b t l ≡ x → x < at.text_length t → s t l i + len t l i ≡ x
    unfolding at.block_length_at
    full-before l i x e h = omega arith

    neighbour-top : (i : ℕ) → i < N t 0 → 0 < H t → (s t 0 i % up_length t 0 ≡ 0 → ⊥) → Neighbour 0 i
    unfolding up_length place_in_parent
    neighbour-top i hi hl ne =
        let below = start-below t k d 0 i hl hi in
        let z : i ≡ 0 → ⊥ = λ e. ne (mod-eq_of_lt below ∙ d.start0 i hi ∙ rw e (zero-mul (b t 0))) in
        let low : 1 ≤ i = pos_of_ne-zero z in
        let e : i ≡ (i - 1) + 1 = omega arith in
        let f : i * b t 0 ≡ (i - 1) * b t 0 + b t 0 = ap (λ (x : ℕ). x * b t 0) e ∙ add-mul (i - 1) 1 (b t 0) ∙ rw one-mul in record {
          low = low;
          same_parent = refl;
          parent_low = omega arith;
          meets = full-before 0 (i - 1) (s t 0 i) (omega (arith, d.start0 i hi, d.start0 (i - 1) (omega arith))) below;
        }

    neighbour-under : (l i : ℕ) → l + 1 < H t → i < N t (l + 1) → (s t (l + 1) i % up_length t (l + 1) ≡ 0 → ⊥) → Neighbour (l + 1) i
    neighbour-under l i hl hi ne = go (parent t k d l i hl hi)
      where
        go : (a j : ℕ) × Parent t l i a j → Neighbour (l + 1) i
        go w =
            let a = w.0 in
            let j = w.1 in
            let p = w.2 in
            let c = b t (l + 1) in
            let m = start-multiple t k d l a (omega arith) p.below in
            let z : j ≡ 0 → ⊥ = λ e. ne (rw (up-under l, p.start_is, e, zero-mul c, add-zero, m.1) (mul-mod_left m.0 (b t l))) in
            let low : 1 ≤ j = pos_of_ne-zero z in
            let e : j ≡ (j - 1) + 1 = omega arith in
            let f : j * c ≡ (j - 1) * c + c = ap (λ (x : ℕ). x * c) e ∙ add-mul (j - 1) 1 c ∙ rw one-mul in
            let p₁ = child-of l a (j - 1) hl p.below p.kept (omega (arith, p.within)) in
            let g : at.link t l a + (j - 1) ≡ i - 1 = omega (arith, p.number) in
            let q : Parent t l (i - 1) a (j - 1) = rw g at p₁ in record {
              low = omega (arith, p.number);
              same_parent = parent_place l (i - 1) a (j - 1) hl q ∙ sym (parent_place l i a j hl p);
              parent_low = rw (parent_place l i a j hl p) (omega (arith, q.start_is));
              meets = full-before (l + 1) (i - 1) (s t (l + 1) i) (omega (arith, q.start_is, p.start_is)) (start-below t k d (l + 1) i hl hi);
            }

    pub neighbour : (l i : ℕ) → l < H t → i < N t l → (s t l i % up_length t l ≡ 0 → ⊥) → Neighbour l i
    neighbour zero i hl hi ne = neighbour-top i hi hl ne
    neighbour (suc l) i hl hi ne =
        let e : suc l ≡ l + 1 = sym (add-one l) in
        let ne₁ : s t (l + 1) i % up_length t (l + 1) ≡ 0 → ⊥ = rw e at ne in
        rw e (neighbour-under l i (omega arith) (rw e at hi) ne₁)
