-- Places side by side, on any tree: while a step to the right stays within every block on the path, the path's end moves with it.
use mathlib.Core.List.{List, [], ◌∷◌}
use Rattle.std.specs.Prelude.{true, ◌&&◌, ◌≡◌, ◌⊎◌, ltb, length}
use Rattle.std.proofs.Math.Option.{some}
use Rattle.std.proofs.Math.Path.{refl, ap}
use Rattle.std.proofs.Common.{sym, ◌∙◌, inl, inr, div-add-mod', mod-lt, add_assoc}
use Prim.Native.Nat.{ℕ, suc, ◌+◌, ◌-◌, ◌*◌, ◌/◌, ◌%◌, ◌≤◌, ◌<◌, min}
use native.Mathlib.Omega.{arith}
use borrow.Author.Tests.{ltb-true}
use Rattle.std.proofs.Math.Arith.{digits_div, digits_mod}
use Rattle.text.specs.ListLaws.{and_right, lt-or-ge}
use Rattle.format.specs.Layout as at
use Rattle.format.specs.TreeReading.{Path, Visit, visit, pointing_block, target_block, target_place, path_of}
use Rattle.format.specs.Answers.{left_over}
use Rattle.theory_paths.specs.Links.{H, b, N}
use Rattle.theory_paths.specs.PlacesResolved.{target_first, target-second}
use Rattle.theory_paths.specs.Visits.{Goes, ends, down, points, goes, goes-path}

-- A step that stays within a block of c bytes.
pub step-div : (o d c : ℕ) → o % c + d < c → (o + d) / c ≡ o / c
step-div o d c h = let e : o + d ≡ o / c * c + (o % c + d) = omega (arith, div-add-mod' o c) in rw e (digits_div (o / c) h)

pub step-mod : (o d c : ℕ) → o % c + d < c → (o + d) % c ≡ o % c + d
step-mod o d c h = let e : o + d ≡ o / c * c + (o % c + d) = omega (arith, div-add-mod' o c) in rw e (digits_mod (o / c) h)

-- The same blocks, with each place d further to the right.
abbrev pub further : ℕ → List Visit → List Visit
further d [] = []
further d (v ∷ vs) = visit v.level v.block (v.place + d) ∷ further d vs

pub length-further : (d : ℕ) (vs : List Visit) → length (further d vs) ≡ length vs
length-further d [] = refl
length-further d (v ∷ vs) = ap suc (length-further d vs)

module _ (t : List ℕ) where
  -- Each place on a path, shifted by d bytes, stays in its block.
  abbrev pub ShiftInBlocks : ℕ → List Visit → Type 0
  ShiftInBlocks d [] = Unit {0}
  ShiftInBlocks d (v ∷ vs) = (v.place + d < b t v.level) × ShiftInBlocks d vs

  -- What is left of every block and of `most`.

  pub left-most : (vs : List Visit) (most : ℕ) → left_over t vs most ≤ most
  unfolding left_over
  left-most [] most = omega arith
  left-most (v ∷ vs) most = omega (arith, left-most vs (min most (b t v.level - v.place)))

  pub left-in-blocks : (vs : List Visit) (most d : ℕ) → d < left_over t vs most → ShiftInBlocks d vs
  unfolding left_over
  left-in-blocks [] most d h = tt
  left-in-blocks (v ∷ vs) most d h =
      let rest = min most (b t v.level - v.place) in
      (omega (arith, left-most vs rest), left-in-blocks vs rest d h)

  pub in-blocks-left : (vs : List Visit) (most d : ℕ) → ShiftInBlocks d vs → d < most → d < left_over t vs most
  unfolding left_over
  in-blocks-left [] most d w h = h
  in-blocks-left (v ∷ vs) most d w h = in-blocks-left vs (min most (b t v.level - v.place)) d w.1 (omega (arith, w.0))

  -- The first block entered is the given one.
  pub goes_first : {below l i o x : ℕ} {vs : List Visit} (d : ℕ) → Goes t below l i o vs x → ShiftInBlocks d vs → o + d < b t l
  goes_first d (ends kept h) w = w.0
  goes_first d (down kept g) w = w.0
  goes_first d (points un pt kept g) w = w.0

  -- A target moves with the place.
  pub target-step : (l i o d : ℕ) → target_place t l i o + d < b t l
      → (target_block t l i (o + d) ≡ target_block t l i o) × (target_place t l i (o + d) ≡ target_place t l i o + d)
  target-step l i o d h = go (lt-or-ge (at.gap t l i + o) (b t l))
    where
      go : (at.gap t l i + o < b t l) ⊎ (b t l ≤ at.gap t l i + o)
          → (target_block t l i (o + d) ≡ target_block t l i o) × (target_place t l i (o + d) ≡ target_place t l i o + d)
      go (inl k) =
          let e = target_first t l i o k in
          let f = target_first t l i (o + d) (omega (arith, e.1)) in
          (f.0 ∙ sym e.0, omega (arith, e.1, f.1))
      go (inr k) =
          let e = target-second t l i o k in
          let f = target-second t l i (o + d) (omega arith) in
          (f.0 ∙ sym e.0, omega (arith, e.1, f.1))

  -- The same blocks are entered, and the end of the path moves with the place.
  pub shift : {below l i o x : ℕ} {vs : List Visit} (d : ℕ) → Goes t below l i o vs x → ShiftInBlocks d vs → x + d < at.leaf_count t
      → Goes t below l i (o + d) (further d vs) (x + d)
  shift {l = l} {i = i} {o = o} d (ends kept h) w fits = rw (add_assoc (at.link t l i) o d) (ends {o = o + d} kept (omega arith))
  shift {l = l} {i = i} {o = o} {x = x} d (down {below = below} {vs = vs} kept g) w fits =
      let c = b t (l + 1) in
      let small = goes_first d g w.1 in
      down {below = below} {o = o + d} {x = x + d} {vs = further d vs} kept (rw (step-div o d c small, step-mod o d c small) (shift d g w.1 fits))
  shift {l = l} {i = i} {o = o} {x = x} d (points {below = below} {vs = vs} un pt kept g) w fits =
      let c = b t (l + 1) in
      let p = target_place t l i o in
      let e = target-step l i o d w.1.0 in
      let small = goes_first d g w.1.1 in
      let go = points {below = below} {o = o + d} {x = x + d}
      {vs = further d vs} un pt (rw e.0 kept) (rw (e.0, e.1, step-div p d c small, step-mod p d c small) (shift d g w.1.1 fits)) in
      rw (e.0, e.1) at go

  -- The path of the place d further on.
  pub path-further : (p d : ℕ) (q : Path) → path_of t p ≡ some q → ShiftInBlocks d q.visits → q.leaf + d < at.leaf_count t
      → path_of t (p + d) ≡ some (record { visits = further d q.visits; leaf = q.leaf + d })
  unfolding path_of
  path-further p d q e w fits =
      let g = goes t (H t - 1) 0 (p / b t 0) (p % b t 0) q e in
      let small = goes_first d g w in
      rw (step-div p d (b t 0) small, step-mod p d (b t 0) small) (goes-path t (shift d g w fits))

  -- As much less is left.
  pub left-further : (d : ℕ) (vs : List Visit) (most : ℕ) → left_over t (further d vs) (most - d) ≡ left_over t vs most - d
  unfolding left_over
  left-further d [] most = refl
  left-further d (v ∷ vs) most =
      let c = b t v.level in
      let e : min (most - d) (c - (v.place + d)) ≡ min most (c - v.place) - d = omega arith in
      ap (left_over t (further d vs)) e ∙ left-further d vs (min most (c - v.place))

  -- Every place on a path lies in its block.

  pub target_small : (l i o : ℕ) → pointing_block t l i ≡ true → o < b t l → target_place t l i o < b t l
  unfolding pointing_block
  target_small l i o pt h = go (lt-or-ge (at.gap t l i + o) (b t l))
    where
      gap_small : at.gap t l i < b t l
      gap_small = ltb-true _ _ (and_right (ltb i (N t l) && at.is_pointing t l i) (ltb (at.gap t l i) (b t l)) pt)

      go : (at.gap t l i + o < b t l) ⊎ (b t l ≤ at.gap t l i + o) → target_place t l i o < b t l
      go (inl k) = omega (arith, (target_first t l i o k).1)
      go (inr k) = omega (arith, (target-second t l i o k).1, gap_small)

  pub goes-in-blocks : {below l i o x : ℕ} {vs : List Visit} → ((j : ℕ) → 0 < b t j) → Goes t below l i o vs x → o < b t l → ShiftInBlocks 0 vs
  goes-in-blocks pos (ends kept h) small = (omega arith, tt)
  goes-in-blocks {l = l} {o = o} pos (down kept g) small = (omega arith, goes-in-blocks pos g (mod-lt o (pos (l + 1))))
  goes-in-blocks {l = l} {i = i} {o = o} pos (points un pt kept g) small =
      (omega arith, (omega (arith, target_small l i o pt small), goes-in-blocks pos g (mod-lt (target_place t l i o) (pos (l + 1)))))
