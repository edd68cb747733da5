-- Reach: the path of place start l i + o passes through block i of level l at place o.
use Rattle.std.specs.Prelude.{List, [], ◌∷◌, ◌++◌, ◌≡◌}
use Rattle.std.proofs.Common.{sym, ap, ◌∙◌}
use Prim.Native.Nat.{ℕ, zero, suc, ◌+◌, ◌-◌, ◌*◌, ◌<◌}
use native.Mathlib.Omega.{arith}
use Rattle.std.proofs.Math.Arith.{digits_div, digits_mod}
use Rattle.format.specs.LayoutLaws.{Readable}
use Rattle.format.specs.Layout as at
use Rattle.format.specs.TreeReading.{Visit, visit, entered, path_from, path_of, leaf_of}
use Rattle.theory_paths.specs.Links.{H, N, b, s, len, Linked}
use Rattle.theory_paths.specs.BlockStarts.{len-small, Parent, parent, in-parent}
use Rattle.theory_paths.specs.PlacesResolved.{entered-none, entered-twice, leaf-entered, kept_block, from-kept}

module _ (t : List ℕ) where
  -- The visits that lead to place o of block i of level l: of its ancestors, all kept, at the place of the text that this is.
  pub data Above : ℕ → ℕ → ℕ → List Visit → Type 0 where
    top : {i o : ℕ} → Above 0 i o []
    under : {l i o a j : ℕ} {vs : List Visit}
        → Parent t l i a j → Above l a (j * b t (l + 1) + o) vs → Above (l + 1) i o (vs ++ visit l a (j * b t (l + 1) + o) ∷ [])

  -- The path of the place of the text passes through place o of block i of level l, after the visits that lead there.
  pub record PathReaches (l i o : ℕ) : Type 0 where
    pub visits : List Visit
    pub lead : Above l i o visits
    pub path : path_of t (s t l i + o) ≡ entered visits (path_from t (H t - 1 - l) l i o)

  module _ (k : Readable t) (d : Linked t) where
    -- From a parent to its child.
    reach-next : (l i o a j : ℕ) → l + 1 < H t → o < len t (l + 1) i → Parent t l i a j → PathReaches l a (j * b t (l + 1) + o) → PathReaches (l + 1) i o
    reach-next l i o a j hl ho p r =
        let x = j * b t (l + 1) + o in
        let h = in-parent t k d l i a j o hl p ho in
        let below = H t - 1 - (l + 1) in
        let left : H t - 1 - l ≡ suc below = omega arith in
        let place : s t (l + 1) i + o ≡ s t l a + x = omega (arith, p.start_is) in
        let down : path_from t (H t - 1 - l) l a x ≡ entered (visit l a x ∷ []) (path_from t below (l + 1) i o) =
        rw left (from-kept t below l a x (kept_block t l a p.below p.kept) ∙ rw (h.back, h.rest, ← p.number)) in record {
          visits = r.visits ++ visit l a x ∷ [];
          lead = under p r.lead;
          path = rw place (r.path ∙ rw down (entered-twice r.visits (visit l a x ∷ []) (path_from t below (l + 1) i o)));
        }

    pub reach : (l i o : ℕ) → l < H t → i < N t l → o < len t l i → PathReaches l i o
    unfolding path_of
    reach zero i o hl hi ho =
        let small : o < b t 0 = omega (arith, len-small t 0 i) in
        let e : H t - 1 - 0 ≡ H t - 1 = omega arith in record {
          visits = [];
          lead = top;
          path = rw (d.start0 i hi, digits_div i small, digits_mod i small, e) (sym (entered-none (path_from t (H t - 1) 0 i o)));
        }
    reach (suc l) i o hl hi ho =
        let e : suc l ≡ l + 1 = omega arith in
        let hl₁ : l + 1 < H t = omega arith in
        let ho₁ : o < len t (l + 1) i = rw e at ho in
        let p = parent t k d l i hl₁ (rw e at hi) in
        let a = p.0 in
        let j = p.1 in
        rw e (reach-next l i o a j
        hl₁ ho₁ p.2 (reach l a (j * b t (l + 1) + o) (omega arith) p.2.below (in-parent t k d l i a j o hl₁ p.2 ho₁).inside))

    -- The byte at the end of the path is the one that the block gives.
    pub reach-leaf : (l i o : ℕ) → l < H t → i < N t l → o < len t l i → leaf_of t (path_of t (s t l i + o)) ≡ leaf_of t (path_from t (H t - 1 - l) l i o)
    reach-leaf l i o hl hi ho =
        let r = reach l i o hl hi ho in
        ap (leaf_of t) r.path ∙ leaf-entered t r.visits (path_from t (H t - 1 - l) l i o)
