-- The block that a step reaches, and the levels between which it goes.
use mathlib.Core.List.{List}
use mathlib.Core.Bool.{Bool, true, false, cond, ◌&&◌}
use mathlib.Core.Path.{◌≡◌, refl, sym, ap, ◌∙◌}
use Prim.Native.Nat.{ℕ, ◌+◌, ◌/◌, ◌≤◌, ◌<◌}
use native.Mathlib.Omega.{arith}
use native.Mathlib.Nat.{mul-div_cancel}
use borrow.Author.Tests.{eqb-true, ne_eqb, ltb-true, ltb-false}
use lib.Dec.{ltb, eqb}
use Rattle.text.specs.ListLaws.{and_left, and_right}
use Rattle.format.specs.Layout as at
use Rattle.format.specs.TreeReading.{is_kept_block, pointing_block, target_block, target_place}
use Rattle.format.specs.LayoutLaws.{full-step}
use Rattle.layout.specs.declared.header.Header.{Header}
use Rattle.layout.specs.declared.place.BlockNumber.{BlockNumber}
use Rattle.layout.specs.declared.place.BlockPlace.{BlockPlace}
use Rattle.layout.specs.HeaderFields.{HeaderOf}
use Rattle.walk_steps.specs.declared.BlockKind.{BlockKind}
use Rattle.walk_steps.specs.declared.BlockKind.TheVariants.{Kept, Points, Off}
use Rattle.walk_steps.specs.declared.position.BlockPosition.{BlockPosition}
use Rattle.std.specs.Prelude.{Option, Some, None}
use Rattle.walk_steps.specs.Steps.{OnLevel, block_kind_at, child_at, resolved_target, arriving}

abbrev next_cases : (kept points : Bool) (i o : ℕ) → BlockKind
next_cases kept points i o = cond kept (Kept (record { 0 = i }) (record { 0 = o })) (cond points (Points (record { 0 = i }) (record { 0 = o })) Off)

case-kept : (kept points : Bool) (i o : ℕ) (j : BlockNumber) (p : BlockPlace) → next_cases kept points i o ≡ Kept j p
    → (kept ≡ true) × (j ≡ record { 0 = i }) × (p ≡ record { 0 = o })
case-kept true points i o j p e = (refl, cc, cc)
case-kept false true i o j p e = absurd (let z : ◌≡◌ {A = ℕ} 0 1 = cc in omega arith)
case-kept false false i o j p e = absurd (let z : ◌≡◌ {A = ℕ} 0 1 = cc in omega arith)

case-points : (kept points : Bool) (i o : ℕ) (j : BlockNumber) (p : BlockPlace) → next_cases kept points i o ≡ Points j p
    → (kept ≡ false) × (points ≡ true) × (j ≡ record { 0 = i }) × (p ≡ record { 0 = o })
case-points true points i o j p e = absurd (let z : ◌≡◌ {A = ℕ} 0 1 = cc in omega arith)
case-points false true i o j p e = (refl, refl, cc, cc)
case-points false false i o j p e = absurd (let z : ◌≡◌ {A = ℕ} 0 1 = cc in omega arith)

case-off : (kept points : Bool) (i o : ℕ) → next_cases kept points i o ≡ Off → (kept ≡ false) × (points ≡ false)
case-off true points i o e = absurd (let z : ◌≡◌ {A = ℕ} 0 1 = cc in omega arith)
case-off false true i o e = absurd (let z : ◌≡◌ {A = ℕ} 0 1 = cc in omega arith)
case-off false false i o e = (refl, refl)

module _ (t : List ℕ) (l i o : ℕ) (x : BlockKind) (is : x ≡ block_kind_at t l i o) where
  pub next-kept : (j : BlockNumber) (p : BlockPlace) → x ≡ Kept j p → (is_kept_block t l i ≡ true) × (j.0 ≡ i) × (p.0 ≡ o)
  unfolding block_kind_at
  next-kept j p e =
      let z = case-kept (is_kept_block t l i) (pointing_block t l i) i o j p (sym is ∙ e) in
      (z.0, ap (λ (n : BlockNumber). n.0) z.1, ap (λ (n : BlockPlace). n.0) z.2)

  pub next-points : (j : BlockNumber) (p : BlockPlace) → x ≡ Points j p → (is_kept_block t l i ≡ false) × (pointing_block t l i ≡ true) × (j.0 ≡ i) × (p.0 ≡ o)
  unfolding block_kind_at
  next-points j p e =
      let z = case-points (is_kept_block t l i) (pointing_block t l i) i o j p (sym is ∙ e) in
      (z.0, z.1, ap (λ (n : BlockNumber). n.0) z.2, ap (λ (n : BlockPlace). n.0) z.3)

  pub next-off : x ≡ Off → (is_kept_block t l i ≡ false) × (pointing_block t l i ≡ false)
  unfolding block_kind_at
  next-off e = case-off (is_kept_block t l i) (pointing_block t l i) i o (sym is ∙ e)

module _ (t : List ℕ) where
  pub pointing-not-kept : (l i : ℕ) → pointing_block t l i ≡ true → is_kept_block t l i ≡ false
  unfolding pointing_block is_kept_block at.is_pointing at.is_kept
  pointing-not-kept l i p =
      let within = ltb i (at.level_count t l) in
      let one : at.kind t l i ≡ 1 = eqb-true
      _ _ (and_right within (eqb (at.kind t l i) 1) (and_left (within && eqb (at.kind t l i) 1) (ltb (at.gap t l i) (at.full_length t l)) p)) in
      rw (
        ne_eqb (at.kind t l i) 0 (λ z. omega arith),
        and_left within (eqb (at.kind t l i) 1) (and_left (within && eqb (at.kind t l i) 1) (ltb (at.gap t l i) (at.full_length t l)) p),
      )

-- The next level's block length is this one's by the arity.
pub level-below : (t : List ℕ) (size level b : ℕ) → OnLevel t size level b → (level + 1 ≡ (at.settings t).levels → ⊥)
    → OnLevel t size (level + 1) (b / (at.settings t).arity)
level-below t size level b on more =
    let k = on.facts in
    let down : level + 1 < (at.settings t).levels = omega (arith, on.level_in, more) in record {
      facts = k;
      size_is = on.size_is;
      level_in = down;
      b_is = rw (on.b_is, full-step t k level down) (mul-div_cancel (at.full_length t (level + 1)) (omega (arith, k.bounds.arity_low)));
    }

-- Level 0, and any level, by the header.
pub on-top : (t : List ℕ) (h : Header) → HeaderOf t h → OnLevel t h.record_size 0 h.top_length
on-top t h k = record {
  facts = k.facts;
  size_is = k.size_is;
  level_in = omega (arith, k.facts.bounds.levels_low);
  b_is = k.block_is;
}

-- What was arrived at.

case_at : (x : Bool) (i o : ℕ) (y : BlockPosition) → arriving x i o ≡ Some y → (x ≡ true) × (y.block.0 ≡ i) × (y.place.0 ≡ o)
case_at true i o y e =
    let f : y ≡ record { block = record { 0 = i }; place = record { 0 = o } } = cc in
    (refl, ap (λ (n : BlockPosition). n.block.0) f, ap (λ (n : BlockPosition). n.place.0) f)
case_at false i o y e = absurd (let z : ◌≡◌ {A = ℕ} 0 1 = cc in omega arith)

case-none : (x : Bool) (i o : ℕ) → arriving x i o ≡ None → x ≡ false
case-none true i o e = absurd (let z : ◌≡◌ {A = ℕ} 0 1 = cc in omega arith)
case-none false i o e = refl

module _ (t : List ℕ) (l i o : ℕ) (x : Option BlockPosition) where
  module _ (is : x ≡ child_at t l i o) where
    pub child-at : (y : BlockPosition) → x ≡ Some y → (i < at.level_count t l) × (y.block.0 ≡ i) × (y.place.0 ≡ o)
    unfolding child_at
    child-at y e =
        let z = case_at (ltb i (at.level_count t l)) i o y (sym is ∙ e) in
        (ltb-true _ _ z.0, z.1, z.2)

    pub child-off : x ≡ None → at.level_count t l ≤ i
    unfolding child_at
    child-off e = ltb-false _ _ (case-none (ltb i (at.level_count t l)) i o (sym is ∙ e))

  module _ (is : x ≡ resolved_target t l i o) where
    pub resolved-at : (y : BlockPosition) → x ≡ Some y
        → (l + 1 < (at.settings t).levels) × (is_kept_block t l (target_block t l i o) ≡ true) × (y.block.0 ≡ target_block t l i o)
        × (y.place.0 ≡ target_place t l i o)
    unfolding resolved_target
    resolved-at y e =
        let more = ltb (l + 1) (at.settings t).levels in
        let kept = is_kept_block t l (target_block t l i o) in
        let z = case_at (more && kept) (target_block t l i o) (target_place t l i o) y (sym is ∙ e) in
        (ltb-true _ _ (and_left more kept z.0), and_right more kept z.0, z.1, z.2)

    pub resolved-off : x ≡ None → (ltb (l + 1) (at.settings t).levels && is_kept_block t l (target_block t l i o)) ≡ false
    unfolding resolved_target
    resolved-off e =
        case-none (ltb (l + 1) (at.settings t).levels && is_kept_block t l (target_block t l i o)) (target_block t l i o) (target_place t l i o) (sym is ∙ e)
