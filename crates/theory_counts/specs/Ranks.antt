-- Count (rank) on an accepted tree: the sum of what is added along the path, minus what is subtracted, is the count of the text.
use Rattle.std.specs.Prelude.{List, [], ◌∷◌, Bool, true, false, cond, ◌≡◌, ◌⊎◌, ℕ, zero, suc, ◌+◌, ◌-◌, ◌/◌, ◌%◌, ◌≤◌, ◌<◌, length, take, get_or, eqb, ltb}
use Rattle.std.proofs.Math.Option.{some}
use Rattle.std.proofs.Math.Path.{refl}
use Rattle.std.proofs.Common.{sym, ap, ◌∙◌, inl, inr, add-one, mod-lt}
use native.Mathlib.Omega.{arith}
use Rattle.std.proofs.Math.Nat.{div-add-mod'}
use borrow.Author.Tests.{eqb-true, eq-eqb, ne_eqb, lt-ltb, le-ltb, le-leb, ltb-true}
use Rattle.text.specs.ListLaws.{bool_cases, bool_clash, lt-or-ge, and_right}
use Rattle.text.specs.Text.{count_in}
use Rattle.text.proofs.CountTheorems.{count-start, count-nil}
use Rattle.format.specs.LayoutLaws.{Readable, header-facts, full-pos, level0-holds}
use Rattle.format.specs.Layout as at
use Rattle.format.specs.TreeReading.{Path, Visit, visit, is_kept_block, target_block, target_place, path_of, text_of, header_result}
use Rattle.format.specs.Answers.{path_length}
use Rattle.format.specs.Answers.{index_of, added_after, added, taken_after, taken, last_place, leaves_reached, count_of, is_counted, number_of_byte, count_answer}
use Rattle.theory_paths.specs.Links.{H, N, b, s, len, Linked}
use Rattle.theory_paths.specs.BlockStarts.{child, len-reach}
use Rattle.theory_paths.specs.PlacesResolved.{kept_block, target, target_first, target-second}
use Rattle.theory_paths.specs.Visits.{Goes, goes}
use Rattle.theory_paths.specs.PathWalk.{path-holds}
use Rattle.theory_counts.specs.CountsLocal.{byte_of, in_leaf_bytes}
use Rattle.theory_counts.specs.LevelTrue.{tally, place_in_parent, Level}
use Rattle.theory_counts.specs.CountedSubstrings.{tally-parts, leaves-tally}
use Rattle.theory_counts.specs.SiblingCounts.{kept_step}
use Rattle.theory_counts.specs.PointedCounts.{points-holder, skip-points}

module _ (t : List ℕ) where
  -- The last level's count that a path's end gives.
  unfoldable pub leaf_count : ℕ → List Visit → ℕ → ℕ
  leaf_count c vs x = count_in (byte_of t c) (leaves_reached t (record { visits = vs; leaf = x }))

  pub leaf-one : (c l i o : ℕ) → leaf_count c (visit l i o ∷ []) (at.link t l i + o) ≡ in_leaf_bytes t l i (o + 1) c
  unfolding leaf_count leaves_reached last_place in_leaf_bytes
  leaf-one c l i o = let e : at.link t l i + o - o ≡ at.link t l i = omega arith in rw e

  pub leaf-cons : (c : ℕ) (v w : Visit) (vs : List Visit) (x : ℕ) → leaf_count c (v ∷ w ∷ vs) x ≡ leaf_count c (w ∷ vs) x
  unfolding leaf_count leaves_reached last_place
  leaf-cons c v w vs x = refl

  -- The first block on a path.
  pub goes-head : {below l i o x : ℕ} {vs : List Visit} → Goes t below l i o vs x → (ws : List Visit) × (vs ≡ visit l i o ∷ ws)
  goes-head (Goes.ends kept h) = ([], refl)
  goes-head (Goes.down {vs = vs} kept g) = (vs, refl)
  goes-head {l = l} {i = i} {o = o} (Goes.points {vs = vs} un pt kept g) = (visit l (target_block t l i o) (target_place t l i o) ∷ vs, refl)

  -- One level down, all of what the rest of the path adds and takes off.
  added-down : (c : ℕ) (u v : Visit) (vs : List Visit) → eqb u.level v.level ≡ false → added_after t c u (v ∷ vs) ≡ added t c (v ∷ vs)
  unfolding added_after added
  added-down c u v vs e = rw e

  taken-down : (c : ℕ) (u v : Visit) (vs : List Visit) → eqb u.level v.level ≡ false → taken_after t c u (v ∷ vs) ≡ taken t c (v ∷ vs)
  unfolding taken_after taken
  taken-down c u v vs e = rw e (omega arith)

  module _ {below l i o x : ℕ} {vs : List Visit} (c : ℕ) (u : Visit) (g : Goes t below l i o vs x) (e : eqb u.level l ≡ false) where
    pub added-rest : added_after t c u vs ≡ added t c vs
    added-rest = let w = goes-head g in rw w.1 (added-down c u (visit l i o) w.0 e)

    pub taken-rest : taken_after t c u vs ≡ taken t c vs
    taken-rest = let w = goes-head g in rw w.1 (taken-down c u (visit l i o) w.0 e)

    pub leaf-rest : leaf_count c (u ∷ vs) x ≡ leaf_count c vs x
    leaf-rest = let w = goes-head g in rw w.1 (leaf-cons c u (visit l i o) w.0 x)

  pub next_level : (l : ℕ) → eqb l (l + 1) ≡ false
  next_level l = ne_eqb l (l + 1) (λ e. omega arith)

  pub added-cons : (c : ℕ) (v : Visit) (vs : List Visit) → added t c (v ∷ vs) ≡ at.before t v.level v.block c + added_after t c v vs
  unfolding added
  added-cons c v vs = refl

  pub taken-cons : (c : ℕ) (v : Visit) (vs : List Visit) → taken t c (v ∷ vs) ≡ taken_after t c v vs
  unfolding taken
  taken-cons c v vs = refl

  -- Nothing after the last block.
  pub added-end : (c : ℕ) (v : Visit) → added_after t c v [] ≡ 0
  unfolding added_after
  added-end c v = refl

  pub taken-end : (c : ℕ) (v : Visit) → taken_after t c v [] ≡ 0
  unfolding taken_after
  taken-end c v = refl

  -- From a pointing block to a target on its level.
  pub taken-target : (c l i o j p : ℕ) (vs : List Visit) → taken_after t c (visit l i o) (visit l j p ∷ vs) ≡ at.skip t l i c + taken_after t c (visit l j p) vs
  unfolding taken_after
  taken-target c l i o j p vs = rw (eq-eqb l l refl)

  pub added-target : (c l i o j p : ℕ) (vs : List Visit) → added_after t c (visit l i o) (visit l j p ∷ vs)
      ≡ cond (eqb j (at.link t l i)) 0 (at.inside t l (at.link t l i) c) + added_after t c (visit l j p) vs
  unfolding added_after
  added-target c l i o j p vs = rw (eq-eqb l l refl)

  -- To the target that holds a place.
  added-at-target : (c l i o : ℕ) (vs : List Visit) → added_after t c (visit l i o) (visit l (target_block t l i o) (target_place t l i o) ∷ vs)
      ≡ cond (ltb (at.gap t l i + o) (b t l)) 0 (at.inside t l (at.link t l i) c) + added_after t c (visit l (target_block t l i o) (target_place t l i o)) vs
  added-at-target c l i o vs =
      added-target c l i o (target_block t l i o) (target_place t l i o) vs
      ∙ ap (λ (x : ℕ). x + added_after t c (visit l (target_block t l i o) (target_place t l i o)) vs) (go (lt-or-ge (at.gap t l i + o) (b t l)))
    where
      go : (at.gap t l i + o < b t l) ⊎ (b t l ≤ at.gap t l i + o)
          → cond (eqb (target_block t l i o) (at.link t l i))
          0 (at.inside t l (at.link t l i) c) ≡ cond (ltb (at.gap t l i + o) (b t l)) 0 (at.inside t l (at.link t l i) c)
      go (inl h) = rw (lt-ltb _ _ h, eq-eqb _ _ (target_first t l i o h).0)
      go (inr h) = rw (le-ltb _ _ h, (target-second t l i o h).0, ne_eqb (at.link t l i + 1) (at.link t l i) (λ e. omega arith))

  kept_of : (l i : ℕ) → is_kept_block t l i ≡ true → at.is_kept t l i ≡ true
  unfolding is_kept_block
  kept_of l i e = and_right (ltb i (N t l)) (at.is_kept t l i) e

  not-kept-of : (l i : ℕ) → i < N t l → is_kept_block t l i ≡ false → at.is_kept t l i ≡ false
  not-kept-of l i hi e = go (bool_cases (at.is_kept t l i))
    where
      go : (at.is_kept t l i ≡ true) ⊎ (at.is_kept t l i ≡ false) → at.is_kept t l i ≡ false
      go (inl kept) = bool_clash (is_kept_block t l i) (kept_block t l i hi kept) e
      go (inr un) = un

  module _ (k : Readable t) (d : Linked t) (a : (m : ℕ) → m < H t → Level t m) (c : ℕ) (hc : c < at.counted_count t) where
    -- The sums down a path from a block.
    walked : {below l i o x : ℕ} {vs : List Visit} → Goes t below l i o vs x → l + below + 1 ≡ H t → i < N t l → o < len t l i
        → added t c vs + leaf_count c vs x ≡ at.before t l i c + taken t c vs + tally t c (s t l i) (o + 1)
    walked {l = l} {i = i} {o = o} (Goes.ends kept h) lev hi ho =
        let v = visit l i o in
        omega (
          arith,
          added-cons c v [],
          taken-cons c v [],
          added-end c v,
          taken-end c v,
          leaf-one c l i o,
          leaves-tally t k d l i (o + 1) c (omega arith) hi (omega arith),
        )
    walked {below = suc below} {l = l} {i = i} {o = o} (Goes.down {x = x} {vs = vs} kept g) lev hi ho =
        let v = visit l i o in
        let hl : l + 1 < H t = omega arith in
        let kept₁ = kept_of l i kept in
        let q = child t k d l i o hl hi kept₁ ho in
        omega (
          arith,
          added-cons c v vs,
          taken-cons c v vs,
          added-rest c v g (next_level l),
          taken-rest c v g (next_level l),
          leaf-rest c v g (next_level l),
          walked g (omega arith) q.below q.inside,
          kept_step t k d l i o c hl hi kept₁ ho (a (l + 1) hl _ c q.below hc),
        )
    walked {below = suc below} {l = l} {i = i} {o = o} (Goes.points {x = x} {vs = vs} un pt kept g) lev hi ho =
        let v = visit l i o in
        let j = target_block t l i o in
        let y = target_place t l i o in
        let w = visit l j y in
        let hl : l + 1 < H t = omega arith in
        let hl₀ : l < H t = omega arith in
        let un₁ = not-kept-of l i hi un in
        let p = d.points l i hl₀ hi un₁ in
        let r = target t k d l i o hi p ho in
        let q = child t k d l j y hl r.below r.kept r.inside in
        omega (
          arith,
          added-cons c v (w ∷ vs),
          taken-cons c v (w ∷ vs),
          added-at-target c l i o vs,
          taken-target c l i o j y vs,
          added-rest c w g (next_level l),
          taken-rest c w g (next_level l),
          leaf-cons c v w vs x,
          leaf-rest c w g (next_level l),
          walked g (omega arith) q.below q.inside,
          kept_step t k d l j y c hl r.below r.kept r.inside (a (l + 1) hl _ c q.below hc),
          points-holder t k d l i o c hi un₁ p ho (a l hl₀ (at.link t l i) c p.target_below hc).inside_is,
          skip-points t k d l i c un₁ (a l hl₀ i c hi hc),
        )

    -- The sums down the path of a place of the text.
    pub counted-path : (p : ℕ) → p < at.text_length t → (q : Path) → path_of t p ≡ some q
        → added t c q.visits + count_in (byte_of t c) (leaves_reached t q) ≡ taken t c q.visits + count_in (byte_of t c) (take (p + 1) (text_of t))
    unfolding path_of leaf_count tally place_in_parent
    counted-path p hp q e =
        let x = b t 0 in
        let i = p / x in
        let o = p % x in
        let hi = level0-holds t k p hp in
        let hl : 0 < H t = omega (arith, k.bounds.levels_low) in
        let whole = div-add-mod' p x in
        let start = d.start0 i hi in
        let ho : o < len t 0 i = len-reach t 0 i o (mod-lt p (full-pos t k 0)) (omega arith) in
        let g = goes t (H t - 1) 0 i o q e in
        let up = (a 0 hl i c hi hc).before-is in
        let two = tally-parts t c 0 (s t 0 i) (s t 0 i - 0) (o + 1) (p + 1) (omega arith) (omega arith) in
        omega (arith, walked g (omega arith) hi ho, count-start (byte_of t c) (text_of t) (p + 1))

-- The number of a counted byte.

index_at : (c : ℕ) (xs : List ℕ) → index_of c xs < length xs → get_or xs (index_of c xs) 0 ≡ c
unfolding index_of
index_at c [] h = absurd (let z : ⊥ = omega arith in z)
index_at c (x ∷ xs) h = index-step c x xs (eqb c x) refl (index_at c xs) h
  where
    index-step : (c x : ℕ) (xs : List ℕ) (y : Bool) → eqb c x ≡ y → (index_of c xs < length xs → get_or xs (index_of c xs) 0 ≡ c)
        → cond y 0 (index_of c xs + 1) < length (x ∷ xs) → get_or (x ∷ xs) (cond y 0 (index_of c xs + 1)) 0 ≡ c
    index-step c x xs true e rest h = sym (eqb-true c x e)
    index-step c x xs false e rest h = rw add-one (rest (omega arith))

pub record Counted (t : List ℕ) (byte : ℕ) : Type 0 where
  pub number_below : number_of_byte t byte < at.counted_count t
  pub byte_is : byte_of t (number_of_byte t byte) ≡ byte

pub counted : (t : List ℕ) → Readable t → (byte : ℕ) → is_counted t byte ≡ true → Counted t byte
unfolding is_counted number_of_byte byte_of
counted t k byte h =
    let l : index_of byte (at.settings t).counted < length (at.settings t).counted = ltb-true _ _ h in
    record { number_below = omega (arith, k.counted_size); byte_is = index_at byte (at.settings t).counted l }

-- Count on an accepted tree.

module _ (t : List ℕ) (r : header_result t ≡ 0) (d : Linked t) (a : (m : ℕ) → m < H t → Level t m) where
  -- The answer of count, by the sums.
  count-of : (byte c : ℕ) (q : Path) (v : ℕ) → added t c q.visits + count_in byte (leaves_reached t q) ≡ taken t c q.visits + v
      → count_of t byte c (some q) ≡ record { number = 0; value = v; entered = length q.visits }
  count-of byte c q v e =
      let plus = added t c q.visits + count_in byte (leaves_reached t q) in
      let minus = taken t c q.visits in
      let f : plus - minus ≡ v = omega arith in
      let low : minus ≤ plus = omega arith in
      rw (le-leb minus plus low, f)

  count-asked : (byte i : ℕ) → is_counted t byte ≡ true → i ≤ at.text_length t
      → count_answer t byte i ≡ cond (eqb i 0) (record { number = 0; value = 0; entered = 0 }) (count_of t byte (number_of_byte t byte) (path_of t (i - 1)))
  unfolding count_answer
  count-asked byte i h hi = rw (r, h, le-leb i (at.text_length t) hi)

  pub count-right : (byte i : ℕ) → is_counted t byte ≡ true → i ≤ at.text_length t
      → count_answer t byte i ≡ record { number = 0; value = count_in byte (take i (text_of t)); entered = cond (eqb i 0) 0 (path_length t (path_of t (i - 1))) }
  count-right byte zero h hi = count-asked byte 0 h hi ∙ rw (count-nil byte)
  count-right byte (suc i) h hi =
      let k = header-facts t r in
      let n = counted t k byte h in
      let c = number_of_byte t byte in
      let e : suc i - 1 ≡ i = omega arith in
      let ne : eqb (suc i) 0 ≡ false = ne_eqb (suc i) 0 (λ z. omega arith) in
      let w = path-holds t k d i (omega arith) in
      let q = w.0 in
      let v = count_in byte (take (i + 1) (text_of t)) in
      let sums : added t c q.visits + count_in byte (leaves_reached t q) ≡ taken t c q.visits + v =
      rw n.byte_is at (counted-path t k d a c n.number_below i (omega arith) q w.1) in
      let f : v ≡ count_in byte (take (suc i) (text_of t)) = rw add-one in
      count-asked byte (suc i) h hi ∙ rw (ne, e, w.1, ← f) (count-of byte c q v sums)
