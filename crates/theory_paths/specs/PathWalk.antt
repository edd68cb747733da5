-- No path breaks in a tree that passes questions 5 to 8, and what leads from a place of the text to the byte at the path's end.
use Rattle.std.specs.Prelude.{List, [], ◌∷◌, ◌++◌, true, false, ◌≡◌, ◌⊎◌, ℕ, zero, suc, ◌+◌, ◌-◌, ◌/◌, ◌%◌, ◌<◌}
use Rattle.std.proofs.Math.Option.{Option, some}
use Rattle.std.proofs.Common.{◌∙◌, inl, inr, arith}
use Rattle.std.proofs.Math.Path.{subst}
use Rattle.std.proofs.Math.Nat.{div-add-mod', mod-lt}
use Rattle.text.specs.ListLaws.{bool_cases}
use Rattle.format.specs.LayoutLaws.{Readable, full-pos, level0-holds}
use Rattle.format.specs.Layout as at
use Rattle.format.specs.TreeReading.{Path, Visit, visit, entered, target_block, target_place, path_from, path_of}
use Rattle.theory_paths.specs.Links.{H, N, b, s, len, Pointing, Linked}
use Rattle.theory_paths.specs.BlockStarts.{len-reach, child, last-kept, leaf-below}
use Rattle.theory_paths.specs.PlacesResolved.{kept_block, kept-not, pointing-block, from_last, from-kept, from-pointing, target}

module _ (t : List ℕ) (k : Readable t) (d : Linked t) where
  -- A relation of leaf bytes to places of the text that holds at last-level blocks, and that a pointing block takes over from its occurrence.
  pub record Carries (P : ℕ → ℕ → Type 0) : Type 0 where
    pub leaf : (i o : ℕ) → i < N t (H t - 1) → o < len t (H t - 1) i → P (at.link t (H t - 1) i + o) (s t (H t - 1) i + o)
    pub points : (l i o x : ℕ) → i < N t l → Pointing t l i → o < len t l i → P x (s t l (at.link t l i) + at.gap t l i + o) → P x (s t l i + o)

  -- A relation that each step preserves holds between the end of each path and its place.
  module _ (P : ℕ → ℕ → Type 0) (c : Carries P) where
    abbrev pub Ends : Option Path → ℕ → Type 0
    Ends r x = (q : Path) × (r ≡ some q) × P q.leaf x

    ends-entered : (vs : List Visit) (r₁ r : Option Path) (x₁ x : ℕ) → r₁ ≡ entered vs r → ((y : ℕ) → P y x → P y x₁) → Ends r x → Ends r₁ x₁
    ends-entered vs r₁ r x₁ x e f h = (record { visits = vs ++ h.0.visits; leaf = h.0.leaf }, e ∙ rw h.1, f h.0.leaf h.2)

    -- The paths from the blocks of the next level.
    abbrev Rest : ℕ → ℕ → Type 0
    Rest below l = (i o : ℕ) → i < N t l → o < len t l i → Ends (path_from t below l i o) (s t l i + o)

    walk_kept : (below l i o : ℕ)
        → l + 1 < H t → i < N t l → at.is_kept t l i ≡ true → o < len t l i → Rest below (l + 1) → Ends (path_from t (suc below) l i o) (s t l i + o)
    walk_kept below l i o hl hi kept ho rest =
        let j = at.link t l i + o / b t (l + 1) in
        let p = o % b t (l + 1) in
        let h = child t k d l i o hl hi kept ho in
        ends-entered (visit l i o ∷ []) _ (path_from t below (l + 1) j p) (s t l i + o) (s t (l + 1) j + p) (from-kept t below l i o (kept_block t l i hi kept))
        (λ y. subst (P y) h.same_place) (rest j p h.below h.inside)

    walk-pointing : (below l i o : ℕ)
        → i < N t l → at.is_kept t l i ≡ false → Pointing t l i → o < len t l i → Rest below (l + 1) → Ends (path_from t (suc below) l i o) (s t l i + o)
    walk-pointing below l i o hi un p ho rest =
        let j = target_block t l i o in
        let x = target_place t l i o in
        let h = target t k d l i o hi p ho in
        ends-entered (visit l i o ∷ []) _ (path_from t (suc below) l j x) (s t l i + o) (s t l j + x)
        (from-pointing t below l i o (kept-not t l i hi un) (pointing-block t l i hi p) (kept_block t l j h.below h.kept))
        (λ y g. c.points l i o y hi p ho (subst (P y) h.same_place g))
        (walk_kept below l j x p.above h.below h.kept h.inside rest)

    pub walk : (below l i o : ℕ) → l + below + 1 ≡ H t → i < N t l → o < len t l i → Ends (path_from t below l i o) (s t l i + o)
    walk zero l i o lev hi ho = last l (omega arith) hi ho
      where
        last : (x : ℕ) → x ≡ H t - 1 → i < N t x → o < len t x i → Ends (path_from t 0 x i o) (s t x i + o)
        last x e hx hy =
            let h₁ : i < N t (H t - 1) = rw e at hx in
            let h₂ : o < len t (H t - 1) i = rw e at hy in
            rw e (
              record { visits = visit (H t - 1) i o ∷ []; leaf = at.link t (H t - 1) i + o },
              from_last t (H t - 1) i o (kept_block t (H t - 1) i h₁ (last-kept t k d i h₁)) (leaf-below t k d i o h₁ h₂),
              c.leaf i o h₁ h₂,
            )
    walk (suc below) l i o lev hi ho = go (bool_cases (at.is_kept t l i)) (λ j p. walk below (l + 1) j p (omega arith))
      where
        go : (at.is_kept t l i ≡ true) ⊎ (at.is_kept t l i ≡ false) → Rest below (l + 1) → Ends (path_from t (suc below) l i o) (s t l i + o)
        go (inl kept) rest = walk_kept below l i o (omega arith) hi kept ho rest
        go (inr un) rest = walk-pointing below l i o hi un (d.points l i (omega arith) hi un) ho rest

    -- The path of a place of the text.
    pub walk-text : (p : ℕ) → p < at.text_length t → Ends (path_of t p) p
    unfolding path_of
    walk-text p hp =
        let c = b t 0 in
        let hi = level0-holds t k p hp in
        let small = mod-lt p (full-pos t k 0) in
        let e : s t 0 (p / c) + p % c ≡ p = omega (arith, d.start0 (p / c) hi, div-add-mod' p c) in
        let h = walk (H t - 1) 0 (p / c) (p % c) (omega (arith, k.bounds.levels_low)) hi (len-reach t 0 (p / c) (p % c) small (omega arith)) in
        (h.0, h.1, subst (P h.0.leaf) e h.2)

  -- No path breaks.

  pub path-holds : (p : ℕ) → p < at.text_length t → (q : Path) × (path_of t p ≡ some q)
  path-holds p hp =
      let h = walk-text (λ x y. Unit {0}) (record { leaf = λ i o hi ho. tt; points = λ l i o x hi g ho h. tt }) p hp in (h.0, h.1)

  pub path-from-holds : (below l i o : ℕ) → l + below + 1 ≡ H t → i < N t l → o < len t l i → (q : Path) × (path_from t below l i o ≡ some q)
  path-from-holds below l i o lev hi ho =
      let h = walk (λ x y. Unit {0}) (record { leaf = λ i o hi ho. tt; points = λ l i o x hi g ho h. tt }) below l i o lev hi ho in (h.0, h.1)
