-- The kept block that a place of a block resolves to: the block itself if it is kept, a kept target if it points; and the path from there.
use Rattle.std.specs.Prelude.{List, [], ◌∷◌, ◌++◌, true, false, ◌≡◌, refl, ◌⊎◌, ℕ, suc, ◌+◌, ◌-◌, ◌/◌, ◌%◌, ◌≤◌, ◌<◌}
use Rattle.std.proofs.Common.{append_assoc, sym, ap, ◌∙◌, inl, inr, arith}
use Rattle.std.proofs.Math.Option.{Option, none, some}
use borrow.Author.Tests.{lt-ltb, le-ltb, eq-eqb}
use Rattle.text.specs.ListLaws.{lt-or-ge}
use Rattle.format.specs.LayoutLaws.{Readable}
use Rattle.format.specs.Layout as at
use Rattle.format.specs.TreeReading.{Path, Visit, visit, entered, is_kept_block, pointing_block, target_block, target_place, resolved_block, resolved_place}
use Rattle.format.specs.TreeReading.{resolved_visits, resolves}
use Rattle.format.specs.TreeReading.{path_from, leaf_of}
use Rattle.theory_paths.specs.Links.{N, b, s, len, Pointing, Linked}
use Rattle.theory_paths.specs.BlockStarts.{first-inside, second-inside}

-- Visits in front of a path.

pub entered-none : (r : Option Path) → entered [] r ≡ r
entered-none none = refl
entered-none (some q) = refl

pub entered-twice : (vs ws : List Visit) (r : Option Path) → entered vs (entered ws r) ≡ entered (vs ++ ws) r
entered-twice vs ws none = refl
entered-twice vs ws (some q) = ap (λ (us : List Visit). some (record { visits = us; leaf = q.leaf })) (sym (append_assoc vs ws q.visits))

pub leaf-entered : (t : List ℕ) (vs : List Visit) (r : Option Path) → leaf_of t (entered vs r) ≡ leaf_of t r
leaf-entered t vs none = refl
leaf-entered t vs (some q) = refl

module _ (t : List ℕ) where
  pub kept_block : (l i : ℕ) → i < N t l → at.is_kept t l i ≡ true → is_kept_block t l i ≡ true
  unfolding is_kept_block
  kept_block l i h kept = rw (lt-ltb _ _ h, kept)

  pub kept-not : (l i : ℕ) → i < N t l → at.is_kept t l i ≡ false → is_kept_block t l i ≡ false
  unfolding is_kept_block
  kept-not l i h un = rw (lt-ltb _ _ h, un)

  pub pointing-block : (l i : ℕ) → i < N t l → Pointing t l i → pointing_block t l i ≡ true
  unfolding pointing_block at.is_pointing
  pointing-block l i h p = rw (lt-ltb _ _ h, eq-eqb _ 1 p.kind_is, lt-ltb _ _ p.gap_small)

  -- On the last level a kept block's path ends at a leaf byte.
  pub from_last : (l i o : ℕ) → is_kept_block t l i ≡ true → at.link t l i + o < at.leaf_count t
      → path_from t 0 l i o ≡ some (record { visits = visit l i o ∷ []; leaf = at.link t l i + o })
  unfolding path_from
  from_last l i o kept h = rw (kept, lt-ltb _ _ h)

  -- A kept block's path goes on with a child.
  pub from-kept : (below l i o : ℕ) → is_kept_block t l i ≡ true
      → path_from t (suc below) l i o ≡ entered (visit l i o ∷ []) (path_from t below (l + 1) (at.link t l i + o / b t (l + 1)) (o % b t (l + 1)))
  unfolding path_from resolves resolved_block resolved_place resolved_visits
  from-kept below l i o kept = rw kept

  -- A pointing block's path with a child of its target, and so as that of the target, with one visit more.
  pub from-points : (below l i o : ℕ) → is_kept_block t l i ≡ false → pointing_block t l i ≡ true → is_kept_block t l (target_block t l i o) ≡ true
      → path_from t (suc below) l i o ≡ entered (visit l i o ∷ visit l (target_block t l i o) (target_place t l i o) ∷ [])
      (path_from t below (l + 1) (at.link t l (target_block t l i o) + target_place t l i o / b t (l + 1)) (target_place t l i o % b t (l + 1)))
  unfolding path_from resolves resolved_block resolved_place resolved_visits
  from-points below l i o un pt kept = rw (un, pt, kept)

  pub from-pointing : (below l i o : ℕ) → is_kept_block t l i ≡ false → pointing_block t l i ≡ true → is_kept_block t l (target_block t l i o) ≡ true
      → path_from t (suc below) l i o ≡ entered (visit l i o ∷ []) (path_from t (suc below) l (target_block t l i o) (target_place t l i o))
  from-pointing below l i o un pt kept =
      let j = target_block t l i o in
      let p = target_place t l i o in
      let rest = path_from t below (l + 1) (at.link t l j + p / b t (l + 1)) (p % b t (l + 1)) in
      from-points below l i o un pt kept ∙ sym (entered-twice (visit l i o ∷ []) (visit l j p ∷ []) rest)
      ∙ ap (entered (visit l i o ∷ [])) (sym (from-kept below l j p kept))

  -- Which of the two blocks, and where in it.
  pub target_first : (l i o : ℕ) → at.gap t l i + o < b t l → (target_block t l i o ≡ at.link t l i) × (target_place t l i o ≡ at.gap t l i + o)
  unfolding target_block target_place
  target_first l i o h = (rw (lt-ltb _ _ h), rw (lt-ltb _ _ h))

  pub target-second : (l i o : ℕ) → b t l ≤ at.gap t l i + o → (target_block t l i o ≡ at.link t l i + 1) × (target_place t l i o ≡ at.gap t l i + o - b t l)
  unfolding target_block target_place
  target-second l i o h = (rw (le-ltb _ _ h), rw (le-ltb _ _ h))

  -- Place o of the pointing block i is a place of a kept block, the one that its occurrence has there.
  pub record Target (l i o : ℕ) : Type 0 where
    pub below : target_block t l i o < N t l
    pub kept : at.is_kept t l (target_block t l i o) ≡ true
    pub inside : target_place t l i o < len t l (target_block t l i o)
    pub same_place : s t l (target_block t l i o) + target_place t l i o ≡ s t l (at.link t l i) + at.gap t l i + o

  module _ (k : Readable t) (d : Linked t) where
    pub target : (l i o : ℕ) → i < N t l → Pointing t l i → o < len t l i → Target l i o
    target l i o hi p ho = go (lt-or-ge (at.gap t l i + o) (b t l))
      where
        go : (at.gap t l i + o < b t l) ⊎ (b t l ≤ at.gap t l i + o) → Target l i o
        go (inl h) =
            let e = target_first l i o h in record {
              below = rw e.0 p.target_below;
              kept = rw e.0 p.target_kept;
              inside = rw (e.0, e.1) (first-inside t k d l i o p hi ho h);
              same_place = rw (e.0, e.1) (omega arith);
            }
        go (inr h) =
            let e = target-second l i o h in
            let f = p.next (omega arith) in record {
              below = rw e.0 f.below;
              kept = rw e.0 f.kept;
              inside = rw (e.0, e.1) (second-inside t k d l i o p f hi ho h);
              same_place = rw (e.0, e.1) (omega (arith, f.start_is));
            }
