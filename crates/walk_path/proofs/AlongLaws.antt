-- A path to the last level and its last step; and what a step to the right along the text does to both.
use mathlib.Core.List.{List, [], ◌∷◌}
use mathlib.Core.Option.{Option, none, some}
use mathlib.Core.Bool.{true, false}
use mathlib.Core.Logic.{◌⊎◌, inl, inr}
use mathlib.Core.Path.{◌≡◌, refl, sym, ap, ◌∙◌}
use Prim.Native.Nat.{ℕ, zero, suc, ◌+◌, ◌-◌, ◌*◌, ◌/◌, ◌%◌, ◌≤◌, ◌<◌}
use native.Mathlib.Omega.{arith}
use native.Mathlib.Nat.{add_assoc, div-add-mod', mod-lt, mul_comm, add-mul-mod_self_left, add-mul-div_left}
use lib.Dec.{ltb}
use borrow.Author.Tests.{ltb-true}
use Rattle.text.specs.ListLaws.{lt-or-ge}
use Rattle.format.specs.Layout as at
use Rattle.format.specs.LayoutLaws.{Readable, full-pos}
use Rattle.format.specs.TreeReading.{Visit, visit, entered, is_kept_block, pointing_block, target_block, target_place, path_from, path_of}
use Rattle.theory_paths.specs.Links.{b, H, N}
use Rattle.theory_paths.specs.PlacesResolved.{entered-none, entered-twice, from-kept, from-points}
use Rattle.theory_paths.specs.Shift.{step-div, step-mod, further, ShiftInBlocks, target-step}
use Rattle.walk_path.specs.Above.{Above, entered_above, above_from, above_of, through_last}
use Rattle.walk_path.proofs.AboveLaws.{above-last, above_kept, above-points, above-off, above-past, above-some, provided-above, Lands, lands-cases}
use Rattle.walk_path.proofs.WalkLaws.{from_past, from-off-lands}

-- A step to the right, in blocks of c bytes.
pub carry-div : (o d c : ℕ) → 0 < c → (o + d) / c ≡ o / c + (o % c + d) / c
carry-div o d c pos =
    let e : o + d ≡ o % c + d + c * (o / c) = omega (arith, div-add-mod' o c, mul_comm c (o / c)) in
    ap (λ (x : ℕ). x / c) e ∙ add-mul-div_left (o % c + d) (o / c) pos ∙ omega arith

pub carry-mod : (o d c : ℕ) → (o + d) % c ≡ (o % c + d) % c
carry-mod o d c =
    let e : o + d ≡ o % c + d + c * (o / c) = omega (arith, div-add-mod' o c, mul_comm c (o / c)) in
    ap (λ (x : ℕ). x % c) e ∙ add-mul-mod_self_left (o % c + d) c (o / c)

module _ (t : List ℕ) where
  -- The last step, after all steps above it.
  path-through : (n l i o : ℕ) → l + n + 1 ≡ H t → path_from t n l i o ≡ through_last t (above_from t n l i o)
  unfolding through_last
  path-through zero l i o e = go (lt-or-ge i (N t l))
    where
      last : H t - 1 ≡ l
      last = omega arith

      go : (i < N t l) ⊎ (N t l ≤ i) → path_from t 0 l i o ≡ through_last t (above_from t 0 l i o)
      go (inl h) = rw (above-last t l i o h, last) (sym (entered-none (path_from t 0 l i o)))
      go (inr h) = rw (above-past t 0 l i o h) (from_past t 0 l i o h)
  path-through (suc n) l i o e = go (λ j p. path-through n (l + 1) j p (omega arith)) (lands-cases t l i o)
    where
      put : (vs : List Visit) (r : Option Above) → entered vs (through_last t r) ≡ through_last t (entered_above vs r)
      put vs none = refl
      put vs (some a) = entered-twice vs a.visits (path_from t 0 (H t - 1) a.block a.place)

      go : ((j p : ℕ) → path_from t n (l + 1) j p ≡ through_last t (above_from t n (l + 1) j p))
          → Lands t l i o ⊎ ((is_kept_block t l i ≡ false) × (pointing_block t l i ≡ true → is_kept_block t l (target_block t l i o) ≡ false))
          → path_from t (suc n) l i o ≡ through_last t (above_from t (suc n) l i o)
      go rest (inl (inl kept)) =
          let j = at.link t l i + o / b t (l + 1) in
          let p = o % b t (l + 1) in
          from-kept t n l i o kept ∙ ap (entered (visit l i o ∷ [])) (rest j p) ∙ put (visit l i o ∷ []) (above_from t n (l + 1) j p)
          ∙ ap (through_last t) (sym (above_kept t n l i o kept))
      go rest (inl (inr s)) =
          let x = target_block t l i o in
          let y = target_place t l i o in
          let j = at.link t l x + y / b t (l + 1) in
          let p = y % b t (l + 1) in
          let vs : List Visit = visit l i o ∷ visit l x y ∷ [] in
          from-points t n l i o s.0 s.1 s.2 ∙ ap (entered vs) (rest j p) ∙ put vs (above_from t n (l + 1) j p)
          ∙ ap (through_last t) (sym (above-points t n l i o s.0 s.1 s.2))
      go rest (inr s) = from-off-lands t n l i o s.0 s.1 ∙ ap (through_last t) (sym (above-off t n l i o s.0 s.1))

  -- Where a path arrives d places further on.
  abbrev pub shifted : ℕ → ℕ → Above → Above
  shifted L d a = record { visits = further d a.visits; block = a.block + (a.place + d) / b t L; place = (a.place + d) % b t L }

  same-shifted : (L d : ℕ) (a : Above) (us ws : List Visit) (i o : ℕ) → us ≡ further d ws → a.visits ≡ ws → a.block ≡ i → a.place ≡ o
      → some (record { visits = us; block = i + (o + d) / b t L; place = (o + d) % b t L }) ≡ some (shifted L d a)
  same-shifted L d a us ws i o u e f g = rw (u, ← e, ← f, ← g)

  last-above : (l i o : ℕ) (a : Above) → above_from t 0 l i o ≡ some a → (a.visits ≡ []) × (a.block ≡ i) × (a.place ≡ o)
  unfolding above_from
  last-above l i o a e =
      let f : some (record { visits = []; block = i; place = o }) ≡ some a =
      (provided-above (ltb i (N t l)) (some (record { visits = []; block = i; place = o })) a e).1 in
      (cc, cc, cc)

  last-shift : {l : ℕ} → 0 < b t l → (L base o d : ℕ) → l ≡ L
      → (a : Above) → (a.visits ≡ []) × (a.block ≡ base + o / b t l) × (a.place ≡ o % b t l) → a.block + (a.place + d) / b t L < N t L
      → above_from t 0 l (base + (o + d) / b t l) ((o + d) % b t l) ≡ some (shifted L d a)
  last-shift {l} pos L base o d s a e in_table =
      let c = b t l in
      let q : a.block + (a.place + d) / b t L ≡ base + (o + d) / c =
      rw (← s, e.1, e.2) (add_assoc base (o / c) ((o % c + d) / c) ∙ ap (λ (x : ℕ). base + x) (sym (carry-div o d c pos))) in
      let m : (a.place + d) % b t L ≡ (o + d) % c = rw (← s, e.2) (sym (carry-mod o d c)) in
      let vs : further d a.visits ≡ [] = rw e.0 in
      let there : base + (o + d) / c < N t l = rw (q, ← s) at in_table in
      above-last t l (base + (o + d) / c) ((o + d) % c) there ∙ rw (vs, q, m)

  same-table : (L d i o j p : ℕ) → i ≡ j → o ≡ p → i + (o + d) / b t L < N t L → j + (p + d) / b t L < N t L
  same-table L d i o j p e f h = rw (e, f) at h

  -- A step to the right that stays within every block above the last level.
  above-shift : ((j : ℕ) → 0 < b t j) → (n l L base o d : ℕ) → l + n ≡ L
      → (a : Above) → above_from t n l (base + o / b t l) (o % b t l) ≡ some a → ShiftInBlocks t d a.visits → a.block + (a.place + d) / b t L < N t L
      → above_from t n l (base + (o + d) / b t l) ((o + d) % b t l) ≡ some (shifted L d a)
  above-shift pos zero l L base o d s a e w in_table = last-shift {l = l} (pos l) L base o d (omega arith) a (last-above l _ _ a e) in_table
  above-shift pos (suc n) l L base o d s a e w in_table = go (λ q p c f. above-shift pos n (l + 1) L q p d (omega arith) c f) (lands-cases t l i p)
    where
      i : ℕ
      i = base + o / b t l

      p : ℕ
      p = o % b t l

      go : ((q x : ℕ) (c : Above) → above_from t n (l + 1) (q + x / b t (l + 1)) (x % b t (l + 1)) ≡ some c → ShiftInBlocks t d c.visits
          → c.block + (c.place + d) / b t L < N t L
          → above_from t n (l + 1) (q + (x + d) / b t (l + 1)) ((x + d) % b t (l + 1)) ≡ some (shifted L d c))
          → Lands t l i p ⊎ ((is_kept_block t l i ≡ false) × (pointing_block t l i ≡ true → is_kept_block t l (target_block t l i p) ≡ false))
          → above_from t (suc n) l (base + (o + d) / b t l) ((o + d) % b t l) ≡ some (shifted L d a)
      go rest (inl (inl kept)) =
          let c = b t (l + 1) in
          let y = above-some (visit l i p ∷ []) (above_from t n (l + 1) (at.link t l i + p / c) (p % c)) a (sym (above_kept t n l i p kept) ∙ e) in
          let v : ShiftInBlocks t d (visit l i p ∷ y.0.visits) = rw y.2 at w in
          let on = rest (at.link t l i) p y.0 y.1 v.1 (same-table L d a.block a.place _ _ y.3 y.4 in_table) in
          rw (step-div o d (b t l) v.0, step-mod o d (b t l) v.0)
          (above_kept t n l i (p + d) kept ∙ ap (entered_above (visit l i (p + d) ∷ [])) on
          ∙ same-shifted L d a _ (visit l i p ∷ y.0.visits) y.0.block y.0.place refl y.2 y.3 y.4)
      go rest (inl (inr x)) =
          let c = b t (l + 1) in
          let j = target_block t l i p in
          let z = target_place t l i p in
          let vs : List Visit = visit l i p ∷ visit l j z ∷ [] in
          let y = above-some vs (above_from t n (l + 1) (at.link t l j + z / c) (z % c)) a (sym (above-points t n l i p x.0 x.1 x.2) ∙ e) in
          let v : ShiftInBlocks t d (visit l i p ∷ visit l j z ∷ y.0.visits) = rw y.2 at w in
          let on = rest (at.link t l j) z y.0 y.1 v.1.1 (same-table L d a.block a.place _ _ y.3 y.4 in_table) in
          let f = target-step t l i p d v.1.0 in
          let past = above-points t n l i (p + d) x.0 x.1 (rw f.0 x.2) in
          rw (step-div o d (b t l) v.0, step-mod o d (b t l) v.0)
          (rw (f.0, f.1) at past ∙ ap (entered_above (visit l i (p + d) ∷ visit l j (z + d) ∷ [])) on
          ∙ same-shifted L d a _ (visit l i p ∷ visit l j z ∷ y.0.visits) y.0.block y.0.place refl y.2 y.3 y.4)
      go rest (inr x) = absurd (let z : none ≡ some a = sym (above-off t n l i p x.0 x.1) ∙ e in let y : ◌≡◌ {A = ℕ} 0 1 = cc in omega arith)

  above-small : ((j : ℕ) → 0 < b t j) → (n l L i o : ℕ) → l + n ≡ L → o < b t l → (a : Above) → above_from t n l i o ≡ some a → a.place < b t L
  above-small pos zero l L i o s small a e =
      let z : L ≡ l = omega arith in
      rw (z, (last-above l i o a e).2) small
  above-small pos (suc n) l L i o s small a e =
      go (λ j p c f. above-small pos n (l + 1) L j (p % b t (l + 1)) (omega arith) (mod-lt p (pos (l + 1))) c f) (lands-cases t l i o)
    where
      go : ((j p : ℕ) (c : Above) → above_from t n (l + 1) j (p % b t (l + 1)) ≡ some c → c.place < b t L)
          → Lands t l i o ⊎ ((is_kept_block t l i ≡ false) × (pointing_block t l i ≡ true → is_kept_block t l (target_block t l i o) ≡ false)) → a.place < b t L
      go rest (inl (inl kept)) =
          let y = above-some (visit l i o ∷ []) (above_from t n (l + 1) (at.link t l i + o / b t (l + 1)) (o % b t (l + 1))) a (sym (above_kept t n l i o kept) ∙ e) in
          rw y.4 (rest (at.link t l i + o / b t (l + 1)) o y.0 y.1)
      go rest (inl (inr x)) =
          let j = target_block t l i o in
          let p = target_place t l i o in
          let y = above-some (visit l i o ∷ visit l j p ∷ []) (above_from t n (l + 1) (at.link t l j + p / b t (l + 1)) (p % b t (l + 1))) a (sym (above-points t n l i o x.0 x.1 x.2) ∙ e) in
          rw y.4 (rest (at.link t l j + p / b t (l + 1)) p y.0 y.1)
      go rest (inr x) = absurd (let z : none ≡ some a = sym (above-off t n l i o x.0 x.1) ∙ e in let y : ◌≡◌ {A = ℕ} 0 1 = cc in omega arith)

  above-table : (n l L i o : ℕ) → l + n ≡ L → (a : Above) → above_from t n l i o ≡ some a → a.block < N t L
  unfolding above_from
  above-table zero l L i o s a e =
      let z : L ≡ l = omega arith in
      let there = (provided-above (ltb i (N t l)) (some (record { visits = []; block = i; place = o })) a e).0 in
      rw (z, (last-above l i o a e).1) (ltb-true _ _ there)
  above-table (suc n) l L i o s a e = go (λ j p c f. above-table n (l + 1) L j p (omega arith) c f) (lands-cases t l i o)
    where
      go : ((j p : ℕ) (c : Above) → above_from t n (l + 1) j p ≡ some c → c.block < N t L)
          → Lands t l i o ⊎ ((is_kept_block t l i ≡ false) × (pointing_block t l i ≡ true → is_kept_block t l (target_block t l i o) ≡ false)) → a.block < N t L
      go rest (inl (inl kept)) =
          let y = above-some (visit l i o ∷ []) (above_from t n (l + 1) (at.link t l i + o / b t (l + 1)) (o % b t (l + 1))) a (sym (above_kept t n l i o kept) ∙ e) in
          rw y.3 (rest (at.link t l i + o / b t (l + 1)) (o % b t (l + 1)) y.0 y.1)
      go rest (inl (inr x)) =
          let j = target_block t l i o in
          let p = target_place t l i o in
          let y = above-some (visit l i o ∷ visit l j p ∷ []) (above_from t n (l + 1) (at.link t l j + p / b t (l + 1)) (p % b t (l + 1))) a (sym (above-points t n l i o x.0 x.1 x.2) ∙ e) in
          rw y.3 (rest (at.link t l j + p / b t (l + 1)) (p % b t (l + 1)) y.0 y.1)
      go rest (inr x) = absurd (let z : none ≡ some a = sym (above-off t n l i o x.0 x.1) ∙ e in let y : ◌≡◌ {A = ℕ} 0 1 = cc in omega arith)

  -- The same for a place of the text.
  module _ (k : Readable t) where
    pub path-of-above : (p : ℕ) → path_of t p ≡ through_last t (above_of t p)
    unfolding path_of above_of
    path-of-above p = path-through (H t - 1) 0 (p / b t 0) (p % b t 0) (omega (arith, k.bounds.levels_low))

    pub above-along : (p d : ℕ) (a : Above) → above_of t p ≡ some a → ShiftInBlocks t d a.visits → a.block + (a.place + d) / b t (H t - 1) < N t (H t - 1)
        → above_of t (p + d) ≡ some (shifted (H t - 1) d a)
    unfolding above_of
    above-along p d a e w in_table =
        let z : (x : ℕ) → 0 + x ≡ x = λ x. omega arith in
        let first : above_from t (H t - 1) 0 (0 + p / b t 0) (p % b t 0) ≡ some a = rw (z (p / b t 0)) e in
        rw (z ((p + d) / b t 0)) at (above-shift (full-pos t k) (H t - 1) 0 (H t - 1) 0 p d (omega arith) a first w in_table)

    -- The place arrived at lies in its block.
    pub above_place : (p : ℕ) (a : Above) → above_of t p ≡ some a → a.place < b t (H t - 1)
    unfolding above_of
    above_place p a e = above-small (full-pos t k) (H t - 1) 0 (H t - 1) (p / b t 0) (p % b t 0) (omega arith) (mod-lt p (full-pos t k 0)) a e

    -- The block at the end is in the table.
    pub above-block : (p : ℕ) (a : Above) → above_of t p ≡ some a → a.block < N t (H t - 1)
    unfolding above_of
    above-block p a e = above-table (H t - 1) 0 (H t - 1) (p / b t 0) (p % b t 0) (omega arith) a e
