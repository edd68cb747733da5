-- The blocks that a path enters, on any tree at all: one on each level, and a second where the first one points.
use mathlib.Core.List.{List, [], ◌∷◌, ◌++◌}
use Rattle.std.proofs.Math.Option.{Option, none, some}
use Rattle.std.specs.Prelude.{Bool, false, ◌&&◌, ◌≡◌, refl, ◌⊎◌, length}
use Rattle.std.proofs.Math.Bool.{true, cond}
use Rattle.std.proofs.Common.{sym, ◌∙◌, arith, ltb-true}
use Rattle.std.proofs.Math.Logic.{inl, inr}
use Prim.Native.Nat.{ℕ, zero, suc, ◌+◌, ◌-◌, ◌*◌, ◌/◌, ◌%◌, ◌≤◌, ◌<◌}
use Rattle.std.proofs.Math.Dec.{ltb}
use Rattle.text.specs.ListLaws.{and_left, and_right, bool_cases}
use Rattle.format.specs.Layout as at
use Rattle.format.specs.TreeReading.{Path, Visit, visit, entered, provided, is_kept_block, pointing_block, target_block, target_place, resolves, path_from, path_of}
use Rattle.theory_paths.specs.Links.{b}
use Rattle.theory_paths.specs.PlacesResolved.{from_last, from-kept, from-points}

module _ (t : List ℕ) where
  -- From place o of block i of level l, with `below` levels under it, these blocks are entered and leaf byte x is reached.
  pub data Goes : ℕ → ℕ → ℕ → ℕ → List Visit → ℕ → Type 0 where
    ends : {l i o : ℕ} → is_kept_block t l i ≡ true → at.link t l i + o < at.leaf_count t → Goes 0 l i o (visit l i o ∷ []) (at.link t l i + o)
    down : {below l i o x : ℕ} {vs : List Visit} → is_kept_block t l i ≡ true
        → Goes below (l + 1) (at.link t l i + o / b t (l + 1)) (o % b t (l + 1)) vs x → Goes (suc below) l i o (visit l i o ∷ vs) x
    points : {below l i o x : ℕ} {vs : List Visit} → is_kept_block t l i ≡ false → pointing_block t l i ≡ true → is_kept_block t l (target_block t l i o) ≡ true
        → Goes below (l + 1) (at.link t l (target_block t l i o) + target_place t l i o / b t (l + 1)) (target_place t l i o % b t (l + 1)) vs x
        → Goes (suc below) l i o (visit l i o ∷ visit l (target_block t l i o) (target_place t l i o) ∷ vs) x

  -- Conditions under which a path goes on.

  provided-some : (c : Bool) (r : Option Path) (q : Path) → provided c r ≡ some q → (c ≡ true) × (r ≡ some q)
  provided-some true r q h = (refl, h)
  provided-some false r q h = absurd (let z : ◌≡◌ {A = ℕ} 0 1 = cc in omega arith)

  entered-some : (vs : List Visit) (r : Option Path) (q : Path) → entered vs r ≡ some q
      → (p : Path) × (r ≡ some p) × (q.visits ≡ vs ++ p.visits) × (q.leaf ≡ p.leaf)
  entered-some vs none q h = absurd (let z : ◌≡◌ {A = ℕ} 0 1 = cc in omega arith)
  entered-some vs (some p) q h = (p, refl, cc, cc)

  resolves-of : (below l i o : ℕ) (q : Path) → path_from t (suc below) l i o ≡ some q
      → (is_kept_block t l i ≡ true) ⊎ ((is_kept_block t l i ≡ false) × (pointing_block t l i ≡ true) × (is_kept_block t l (target_block t l i o) ≡ true))
  unfolding path_from resolves
  resolves-of below l i o q h = go (bool_cases (is_kept_block t l i)) (provided-some (resolves t l i o) _ q h).0
    where
      go : (is_kept_block t l i ≡ true) ⊎ (is_kept_block t l i ≡ false) → resolves t l i o ≡ true
          → (is_kept_block t l i ≡ true) ⊎ ((is_kept_block t l i ≡ false) × (pointing_block t l i ≡ true) × (is_kept_block t l (target_block t l i o) ≡ true))
      go (inl kept) e = inl kept
      go (inr un) e =
          let both : (pointing_block t l i && is_kept_block t l (target_block t l i o)) ≡ true = rw un at e in
          inr (
            un,
            and_left (pointing_block t l i) (is_kept_block t l (target_block t l i o)) both,
            and_right (pointing_block t l i) (is_kept_block t l (target_block t l i o)) both,
          )

  -- Every path is of this form, and whatever is of this form is the path.

  goes_same : (below l i o : ℕ) (vs ws : List Visit) (x y : ℕ) → ws ≡ vs → y ≡ x → Goes below l i o vs x → Goes below l i o ws y
  goes_same below l i o vs ws x y e f g = rw (e, f) g

  pub goes : (below l i o : ℕ) (q : Path) → path_from t below l i o ≡ some q → Goes below l i o q.visits q.leaf
  unfolding path_from
  goes zero l i o q h =
      let inside = ltb (at.link t l i + o) (at.leaf_count t) in
      let p = provided-some (is_kept_block t l i && inside) (some (record { visits = visit l i o ∷ []; leaf = at.link t l i + o })) q h in
      let e : some (record { visits = visit l i o ∷ []; leaf = at.link t l i + o }) ≡ some q = p.1 in
      let vs : q.visits ≡ visit l i o ∷ [] = cc in
      let x : q.leaf ≡ at.link t l i + o = cc in
      goes_same 0 l i o _ _ _ _ vs x (ends (and_left (is_kept_block t l i) inside p.0) (ltb-true _ _ (and_right (is_kept_block t l i) inside p.0)))
  goes (suc below) l i o q h = go (λ j p. goes below (l + 1) j p) (resolves-of below l i o q h)
    where
      go : ((j p : ℕ) (r : Path) → path_from t below (l + 1) j p ≡ some r → Goes below (l + 1) j p r.visits r.leaf)
          → (is_kept_block t l i ≡ true) ⊎ ((is_kept_block t l i ≡ false) × (pointing_block t l i ≡ true) × (is_kept_block t l (target_block t l i o) ≡ true))
          → Goes (suc below) l i o q.visits q.leaf
      go rest (inl kept) =
          let j = at.link t l i + o / b t (l + 1) in
          let p = o % b t (l + 1) in
          let e = entered-some (visit l i o ∷ []) (path_from t below (l + 1) j p) q (sym (from-kept t below l i o kept) ∙ h) in
          goes_same (suc below) l i o _ _ _ _ e.2 e.3 (down kept (rest j p e.0 e.1))
      go rest (inr k) =
          let x = target_block t l i o in
          let y = target_place t l i o in
          let j = at.link t l x + y / b t (l + 1) in
          let p = y % b t (l + 1) in
          let e = entered-some (visit l i o ∷ visit l x y ∷ []) (path_from t below (l + 1) j p) q (sym (from-points t below l i o k.0 k.1 k.2) ∙ h) in
          goes_same (suc below) l i o _ _ _ _ e.2 e.3 (points k.0 k.1 k.2 (rest j p e.0 e.1))

  pub goes-path : {below l i o x : ℕ} {vs : List Visit} → Goes below l i o vs x → path_from t below l i o ≡ some (record { visits = vs; leaf = x })
  goes-path {l = l} {i = i} {o = o} (ends kept h) = from_last t l i o kept h
  goes-path {below = suc below} {l = l} {i = i} {o = o} (down kept g) = from-kept t below l i o kept ∙ rw (goes-path g)
  goes-path {below = suc below} {l = l} {i = i} {o = o} (points un pt kept g) = from-points t below l i o un pt kept ∙ rw (goes-path g)

  -- The leaf byte reached is in the tree.
  pub goes-leaf : {below l i o x : ℕ} {vs : List Visit} → Goes below l i o vs x → x < at.leaf_count t
  goes-leaf (ends kept h) = h
  goes-leaf (down kept g) = goes-leaf g
  goes-leaf (points un pt kept g) = goes-leaf g

  -- The number of blocks entered: one on each level, and one more for each that points.

  unfoldable pub pointers : List Visit → ℕ
  unfolding is_kept_block
  pointers [] = 0
  pointers (v ∷ vs) =
      let rest = pointers vs in
      cond (is_kept_block t v.level v.block) rest (rest + 1)

  pub goes-length : {below l i o x : ℕ} {vs : List Visit} → Goes below l i o vs x → length vs ≡ below + 1 + pointers vs
  unfolding pointers
  goes-length (ends kept h) = rw kept
  goes-length {below = suc below} (down {vs = vs} kept g) = rw kept (omega (arith, goes-length g))
  goes-length {below = suc below} (points {vs = vs} un pt kept g) = rw (un, kept) (omega (arith, goes-length g))

  pub goes-short : {below l i o x : ℕ} {vs : List Visit} → Goes below l i o vs x → length vs ≤ 2 * below + 1
  goes-short (ends kept h) = omega arith
  goes-short {below = suc below} (down kept g) = omega (arith, goes-short g)
  goes-short {below = suc below} (points un pt kept g) = omega (arith, goes-short g)

  pub goes-long : {below l i o x : ℕ} {vs : List Visit} → Goes below l i o vs x → below + 1 ≤ length vs
  goes-long g = omega (arith, goes-length g)

  -- A path enters at least one block.
  pub path-long : (p : ℕ) (q : Path) → path_of t p ≡ some q → 1 ≤ length q.visits
  unfolding path_of
  path-long p q e = omega (arith, goes-long (goes ((at.settings t).levels - 1) 0 (p / at.full_length t 0) (p % at.full_length t 0) q e))
