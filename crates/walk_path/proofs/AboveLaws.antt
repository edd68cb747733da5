-- A path down to the last level, step by step.
use mathlib.Core.List.{List, [], ◌∷◌, ◌++◌, append_assoc}
use mathlib.Core.Option.{Option, none, some}
use mathlib.Core.Bool.{Bool, true, false}
use mathlib.Core.Logic.{◌⊎◌, inl, inr}
use mathlib.Core.Path.{◌≡◌, refl, sym, ap}
use Prim.Native.Nat.{ℕ, zero, suc, ◌+◌, ◌/◌, ◌%◌, ◌≤◌, ◌<◌}
use native.Mathlib.Omega.{arith}
use borrow.Author.Tests.{lt-ltb, le-ltb}
use Rattle.text.specs.ListLaws.{bool_cases}
use Rattle.format.specs.Layout as at
use Rattle.format.specs.TreeReading.{Visit, visit, is_kept_block, pointing_block, target_block, target_place, resolved_block, resolved_place, resolved_visits, resolves}
use Rattle.theory_paths.specs.Links.{b, N}
use Rattle.walk_path.specs.Above.{Above, entered_above, provided_above, above_from}

-- Visits in front.

pub above-twice : (vs ws : List Visit) (r : Option Above) → entered_above vs (entered_above ws r) ≡ entered_above (vs ++ ws) r
above-twice vs ws none = refl
above-twice vs ws (some a) =
    ap (λ (us : List Visit). some (record { visits = us; block = a.block; place = a.place })) (sym (append_assoc vs ws a.visits))

pub above-some : (vs : List Visit) (r : Option Above) (a : Above) → entered_above vs r ≡ some a
    → (c : Above) × (r ≡ some c) × (a.visits ≡ vs ++ c.visits) × (a.block ≡ c.block) × (a.place ≡ c.place)
above-some vs none a h = absurd (let z : ◌≡◌ {A = ℕ} 0 1 = cc in omega arith)
above-some vs (some c) a h = (c, refl, cc, cc, cc)

pub provided-above : (x : Bool) (r : Option Above) (a : Above) → provided_above x r ≡ some a → (x ≡ true) × (r ≡ some a)
provided-above true r a h = (refl, h)
provided-above false r a h = absurd (let z : ◌≡◌ {A = ℕ} 0 1 = cc in omega arith)

module _ (t : List ℕ) where
  pub above-last : (l i o : ℕ) → i < N t l → above_from t 0 l i o ≡ some (record { visits = []; block = i; place = o })
  unfolding above_from
  above-last l i o h = rw (lt-ltb _ _ h)

  pub above_kept : (n l i o : ℕ) → is_kept_block t l i ≡ true
      → above_from t (suc n) l i o ≡ entered_above (visit l i o ∷ []) (above_from t n (l + 1) (at.link t l i + o / b t (l + 1)) (o % b t (l + 1)))
  unfolding above_from resolves resolved_block resolved_place resolved_visits
  above_kept n l i o kept = rw kept

  pub above-points : (n l i o : ℕ) → is_kept_block t l i ≡ false → pointing_block t l i ≡ true → is_kept_block t l (target_block t l i o) ≡ true
      → above_from t (suc n) l i o ≡ entered_above (visit l i o ∷ visit l (target_block t l i o) (target_place t l i o) ∷ [])
      (above_from t n (l + 1) (at.link t l (target_block t l i o) + target_place t l i o / b t (l + 1)) (target_place t l i o % b t (l + 1)))
  unfolding above_from resolves resolved_block resolved_place resolved_visits
  above-points n l i o un pt kept = rw (un, pt, kept)

  -- A pointing block's path is its target's, with one visit more.
  pub above-pointing : (n l i o : ℕ) → is_kept_block t l i ≡ false → pointing_block t l i ≡ true → is_kept_block t l (target_block t l i o) ≡ true
      → above_from t (suc n) l i o ≡ entered_above (visit l i o ∷ []) (above_from t (suc n) l (target_block t l i o) (target_place t l i o))
  unfolding above_from resolves resolved_block resolved_place resolved_visits
  above-pointing n l i o un pt kept =
      rw (un, pt, kept) (sym (above-twice (visit l i o ∷ []) (visit l (target_block t l i o) (target_place t l i o) ∷ [])
      (above_from t n (l + 1) (at.link t l (target_block t l i o) + target_place t l i o / b t (l + 1)) (target_place t l i o % b t (l + 1)))))

  pub above-off : (n l i o : ℕ) → is_kept_block t l i ≡ false → (pointing_block t l i ≡ true → is_kept_block t l (target_block t l i o) ≡ false)
      → above_from t (suc n) l i o ≡ none
  unfolding above_from resolves
  above-off n l i o un apart = go (bool_cases (pointing_block t l i))
    where
      go : (pointing_block t l i ≡ true) ⊎ (pointing_block t l i ≡ false) → above_from t (suc n) l i o ≡ none
      go (inl pt) = rw (un, pt, apart pt)
      go (inr pt) = rw (un, pt)

  pub above-past : (n l i o : ℕ) → N t l ≤ i → above_from t n l i o ≡ none
  unfolding above_from resolves is_kept_block pointing_block
  above-past zero l i o past = rw (le-ltb i (N t l) past)
  above-past (suc n) l i o past = rw (le-ltb i (N t l) past)

  -- What lets a path through to the last level.
  abbrev pub Lands : ℕ → ℕ → ℕ → Type 0
  Lands l i o =
      (is_kept_block t l i ≡ true) ⊎ ((is_kept_block t l i ≡ false) × (pointing_block t l i ≡ true) × (is_kept_block t l (target_block t l i o) ≡ true))

  pub lands-cases : (l i o : ℕ) → Lands l i o ⊎ ((is_kept_block t l i ≡ false) × (pointing_block t l i ≡ true → is_kept_block t l (target_block t l i o) ≡ false))
  lands-cases l i o = go (bool_cases (is_kept_block t l i)) (bool_cases (pointing_block t l i)) (bool_cases (is_kept_block t l (target_block t l i o)))
    where
      go : (is_kept_block t l i ≡ true) ⊎ (is_kept_block t l i ≡ false) → (pointing_block t l i ≡ true) ⊎ (pointing_block t l i ≡ false)
          → (is_kept_block t l (target_block t l i o) ≡ true) ⊎ (is_kept_block t l (target_block t l i o) ≡ false)
          → Lands l i o ⊎ ((is_kept_block t l i ≡ false) × (pointing_block t l i ≡ true → is_kept_block t l (target_block t l i o) ≡ false))
      go (inl k) p q = inl (inl k)
      go (inr k) (inl p) (inl q) = inl (inr (k, p, q))
      go (inr k) (inl p) (inr q) = inr (k, λ z. q)
      go (inr k) (inr p) q = inr (k, λ z. absurd (let y : ◌≡◌ {A = ℕ} 0 1 = cc in omega arith))
