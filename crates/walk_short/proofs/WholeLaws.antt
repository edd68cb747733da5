-- The whole walk of a short span: each case of a level, and the levels below.
use mathlib.Core.List.{List, [], ◌∷◌}
use mathlib.Core.Option.{Option, none, some}
use mathlib.Core.Bool.{true, false}
use mathlib.Core.Path.{◌≡◌, refl, sym, ap, ◌∙◌}
use mathlib.Core.Logic.{◌⊎◌, inl, inr}
use Prim.Native.Nat.{ℕ, suc, ◌+◌, ◌-◌, ◌*◌, ◌/◌, ◌%◌, ◌≤◌, ◌<◌}
use native.Mathlib.Omega.{arith}
use native.Mathlib.Nat.{mod-lt, add-zero}
use borrow.Author.Tests.{le-leb, lt-leb}
use lib.ListN.{length}
use Rattle.text.specs.ListLaws.{lt-or-ge, bool_cases}
use Rattle.format.specs.Layout.{max_text, max_leaf, max_levels}
use Rattle.format.specs.Layout as at
use Rattle.format.specs.TreeReading.{Visit, visit, is_kept_block, pointing_block, target_block, target_place, Short, led, by_edges, in_one_leaf, short_from, short_of}
use Rattle.format.specs.LayoutLaws.{Readable, full-pos}
use Rattle.theory_edges.specs.SpanSteps as edges
use Rattle.theory_edges.specs.SpanPlaces as places
use Rattle.theory_paths.specs.Shift.{target_small}
use Rattle.layout.specs.declared.header.Header.{Header}
use Rattle.layout.specs.declared.place.BlockNumber.{BlockNumber}
use Rattle.layout.specs.declared.place.BlockPlace.{BlockPlace}
use Rattle.walk_steps.specs.declared.position.BlockPosition.{BlockPosition}
use Rattle.layout.specs.HeaderFields.{HeaderOf}
use Rattle.walk_steps.specs.Steps.{OnLevel}
use Rattle.walk_steps.proofs.StepLaws.{b-small}
use Rattle.walk_steps.proofs.NextLaws.{level-below, on-top}
use Rattle.walk_short.specs.declared.gather.Parts.{Parts}
use Rattle.std.specs.Prelude.{Some, None}
use Rattle.std.specs.Prelude as prelude
use Rattle.walk_short.specs.declared.gather.SpanStep.{SpanStep}
use Rattle.walk_short.specs.declared.gather.SpanStep.TheVariants as step
use Rattle.walk_short.specs.Gathered.{gathered, down_to, pointed_to, span_step, Crossing, Walking, InRange}
use Rattle.walk_short.proofs.GatherLaws.{gathered-led, child-pos}

gathered_none : (n : ℕ) → None ≡ gathered n none
unfolding gathered
gathered_none n = refl

module _ (t : List ℕ) (size level b i o len entered : ℕ) (w : Walking t size level b o len entered) where
  abbrev H : ℕ
  H = (at.settings t).levels

  facts : Readable t
  facts = w.on.facts

  -- The walk from here.
  abbrev Whole : prelude.Option Parts → Type 0
  Whole r = r ≡ gathered entered (short_from t (H - 1 - level) level i o len)

  pub sum-few : o + len ≤ max_text + max_leaf
  sum-few = omega (arith, w.place-in, w.short, facts.bounds.leaf_high, b-small t size level b w.on)

  pub entered-few : entered ≤ 2 * max_levels - 2
  entered-few = omega (arith, w.few, w.on.level_in, facts.bounds.levels_high)

  pub over-asks : b < o + len → Crossing t size level b o entered
  over-asks past = record { on = w.on; place-in = w.place-in; near = omega (arith, w.short); few = omega (arith, w.few) }

  pub over_by : b < o + len → (r : prelude.Option Parts) → r ≡ gathered entered (by_edges t level i o) → Whole r
  over_by past r e = e ∙ ap (gathered entered) (sym (edges.over t (H - 1 - level) level i o len (omega (arith, w.on.b_is))))

  -- The span lies in the block.
  module _ (fits : o + len ≤ b) where
    fits-full : o + len ≤ at.full_length t level
    fits-full = omega (arith, w.on.b_is)

    pub last-by : level + 1 ≡ (at.settings t).levels → (r : prelude.Option Parts) → r ≡ gathered entered (in_one_leaf t level i o len) → Whole r
    last-by last r e =
        let z : H - 1 - level ≡ 0 = omega (arith, last) in
        e ∙ rw (z, edges.last_is t level i o len fits-full)

    module _ (more : level + 1 ≡ (at.settings t).levels → ⊥) where
      below : ℕ
      below = H - 1 - (level + 1)

      left : H - 1 - level ≡ suc below
      unfolding below
      left = omega (arith, w.on.level_in, more)

      abbrev c : ℕ
      c = at.full_length t (level + 1)

      pub c_is : (x r : ℕ) → x ≡ b / r → r ≡ (at.settings t).arity → x ≡ at.full_length t (level + 1)
      c_is x r e r-is = e ∙ rw r-is (level-below t size level b w.on more).b_is

      -- The cases of a level.
      record Inside (j p n : ℕ) : Type 0 where
        step_is : span_step t level i o len ≡ down_to t level c j p n
        few : n ≤ 2
        walk_is : (vs : List Visit)
            × (length vs ≡ n) × (short_from t (suc below) level i o len ≡ led vs (short_from t below (level + 1) (at.link t level j + p / c) (p % c) len))

      record Between (j p : ℕ) : Type 0 where
        step_is : span_step t level i o len ≡ step.Over (record { 0 = j }) (record { 0 = p })
        place-in : p < b
        past : b < p + len
        walk_is : short_from t (suc below) level i o len ≡ led (visit level i o ∷ []) (by_edges t level j p)

      record Off : Type 0 where
        step_is : span_step t level i o len ≡ step.Off
        walk_is : short_from t (suc below) level i o len ≡ none

      Cases : Type 0
      Cases = ((j : ℕ) × (p : ℕ) × (n : ℕ) × Inside j p n) ⊎ (((j : ℕ) × (p : ℕ) × Between j p) ⊎ Off)

      abbrev j : ℕ
      j = target_block t level i o

      abbrev p : ℕ
      p = target_place t level i o

      kept_case : is_kept_block t level i ≡ true → Inside i o 1
      unfolding span_step
      kept_case kept = record {
        step_is = rw kept;
        few = omega arith;
        walk_is = (visit level i o ∷ [], refl, edges.kept_step t level i o len fits-full below kept);
      }

      target-case : is_kept_block t level i ≡ false → pointing_block t level i ≡ true → p + len ≤ at.full_length t level → is_kept_block t level j ≡ true → Inside j p 2
      unfolding span_step pointed_to
      target-case un pt inside kept = record {
        step_is = rw (un, pt, le-leb (p + len) (at.full_length t level) inside, kept);
        few = omega arith;
        walk_is = (visit level i o ∷ visit level j p ∷ [], refl, edges.points-step t level i o len fits-full below un pt kept inside);
      }

      off-case : is_kept_block t level i ≡ false → pointing_block t level i ≡ true → p + len ≤ at.full_length t level → is_kept_block t level j ≡ false → Off
      unfolding span_step pointed_to
      off-case un pt inside kept = record {
        step_is = rw (un, pt, le-leb (p + len) (at.full_length t level) inside, kept);
        walk_is = edges.off-target t level i o len fits-full below un pt kept inside;
      }

      none-case : is_kept_block t level i ≡ false → pointing_block t level i ≡ false → Off
      unfolding span_step
      none-case un pt = record { step_is = rw (un, pt); walk_is = edges.off-step t level i o len fits-full below un pt }

      between-case : is_kept_block t level i ≡ false → pointing_block t level i ≡ true → at.full_length t level < p + len → Between j p
      unfolding span_step pointed_to
      between-case un pt past = record {
        step_is = rw (un, pt, lt-leb (p + len) (at.full_length t level) past);
        place-in = rw w.on.b_is (target_small t level i o pt (omega (arith, w.place-in, w.on.b_is)));
        past = omega (arith, w.on.b_is);
        walk_is = edges.between_step t level i o len fits-full below un pt past;
      }

      cases : Cases
      unfolding Cases
      cases = go (bool_cases (is_kept_block t level i))
          (bool_cases (pointing_block t level i)) (lt-or-ge (at.full_length t level) (p + len)) (bool_cases (is_kept_block t level j))
        where
          go : (is_kept_block t level i ≡ true) ⊎ (is_kept_block t level i ≡ false) → (pointing_block t level i ≡ true) ⊎ (pointing_block t level i ≡ false)
              → (at.full_length t level < p + len) ⊎ (p + len ≤ at.full_length t level) → (is_kept_block t level j ≡ true) ⊎ (is_kept_block t level j ≡ false)
              → ((j : ℕ) × (p : ℕ) × (n : ℕ) × Inside j p n) ⊎ (((j : ℕ) × (p : ℕ) × Between j p) ⊎ Off)
          go (inl kept) y z v = inl (i, o, 1, kept_case kept)
          go (inr un) (inr pt) z v = inr (inr (none-case un pt))
          go (inr un) (inl pt) (inl past) v = inr (inl (j, p, between-case un pt past))
          go (inr un) (inl pt) (inr inside) (inl kept) = inl (j, p, 2, target-case un pt inside kept)
          go (inr un) (inl pt) (inr inside) (inr off) = inr (inr (off-case un pt inside off))

      -- How the walk continues after each kind of step.
      module _ (x : SpanStep) (x-is : x ≡ span_step t level i o len) where
        clash : {A : Type 0} → ◌≡◌ {A = ℕ} 0 1 → A
        clash e = absurd (let z : ⊥ = omega arith in z)

        -- The block and place that the walk goes down from.
        record DownFrom (f : BlockNumber) (s : ℕ) (q : BlockPlace) (n : ℕ) : Type 0 where
          block : ℕ
          place : ℕ
          inside : Inside block place n
          block_is : f.0 + s ≡ at.link t level block + place / c
          place_is : q.0 ≡ place % c

        down-case : (f : BlockNumber) (s : ℕ) (q : BlockPlace) (n : ℕ) → x ≡ step.Down f s q n → DownFrom f s q n
        unfolding Cases down_to
        down-case f s q n e = go cases
          where
            go : ((j : ℕ) × (p : ℕ) × (n : ℕ) × Inside j p n) ⊎ (((j : ℕ) × (p : ℕ) × Between j p) ⊎ Off) → DownFrom f s q n
            go (inl (j, p, k, v)) =
                let same : step.Down f s q n ≡ step.Down (record { 0 = at.link t level j }) (p / c) (record { 0 = p % c }) k = sym e ∙ x-is ∙ v.step_is in
                let number : n ≡ k = cc in
                let first : f.0 ≡ at.link t level j = ap (λ (y : BlockNumber). y.0) (let z : f ≡ record { 0 = at.link t level j } = cc in z) in
                let steps : s ≡ p / c = cc in
                record {
                  block = j;
                  place = p;
                  inside = rw number v;
                  block_is = ap (λ (y : ℕ). y + s) first ∙ ap (λ (y : ℕ). at.link t level j + y) steps;
                  place_is = ap (λ (y : BlockPlace). y.0) (let z : q ≡ record { 0 = p % c } = cc in z);
                }
            go (inr (inl (j, p, v))) =
                let same : step.Down f s q n ≡ step.Over (record { 0 = j }) (record { 0 = p }) = sym e ∙ x-is ∙ v.step_is in
                clash (let z : ◌≡◌ {A = ℕ} 0 1 = cc in z)
            go (inr (inr v)) =
                let same : step.Down f s q n ≡ step.Off = sym e ∙ x-is ∙ v.step_is in
                clash (let z : ◌≡◌ {A = ℕ} 0 1 = cc in z)

        pub down-asks : (f : BlockNumber) (s : ℕ) (q : BlockPlace) (n : ℕ)
            → x ≡ step.Down f s q n → (d : ℕ) → d ≡ at.full_length t (level + 1) → Walking t size (level + 1) d q.0 len (entered + n)
        down-asks f s q n e d d_is =
            let v = down-case f s q n e in
            record {
              on = record { facts = w.on.facts; size_is = w.on.size_is; level_in = (level-below t size level b w.on more).level_in; b_is = d_is };
              place-in = rw (v.place_is, d_is) (mod-lt v.place (child-pos t size level b w.on));
              short = w.short;
              few = omega (arith, w.few, v.inside.few);
            }

        pub down_by : (f : BlockNumber) (s : ℕ) (q : BlockPlace) (n : ℕ) → x ≡ step.Down f s q n → (r : prelude.Option Parts)
            → r ≡ gathered (entered + n) (short_from t (H - 1 - (level + 1)) (level + 1) (f.0 + s) q.0 len) → Whole r
        unfolding below
        down_by f s q n e r r-is =
            let v = down-case f s q n e in
            let u = v.inside.walk_is in
            let down : ℕ → ℕ → prelude.Option Parts = λ a x. gathered (entered + n) (short_from t (H - 1 - (level + 1)) (level + 1) a x len) in
            r-is ∙ ap (λ (a : ℕ). down a q.0) v.block_is ∙ ap (down (at.link t level v.block + v.place / c)) v.place_is
            ∙ gathered-led u.0 entered n _ u.1 ∙ ap (gathered entered) (sym u.2) ∙ rw left

        over-case : (f : BlockNumber) (q : BlockPlace) → x ≡ step.Over f q → Between f.0 q.0
        unfolding Cases down_to
        over-case f q e = go cases
          where
            go : ((j : ℕ) × (p : ℕ) × (n : ℕ) × Inside j p n) ⊎ (((j : ℕ) × (p : ℕ) × Between j p) ⊎ Off) → Between f.0 q.0
            go (inl (j, p, k, v)) =
                let same : step.Over f q ≡ step.Down (record { 0 = at.link t level j }) (p / c) (record { 0 = p % c }) k = sym e ∙ x-is ∙ v.step_is in
                clash (let z : ◌≡◌ {A = ℕ} 0 1 = cc in z)
            go (inr (inl (j, p, v))) =
                let same : step.Over f q ≡ step.Over (record { 0 = j }) (record { 0 = p }) = sym e ∙ x-is ∙ v.step_is in
                let first : f.0 ≡ j = ap (λ (y : BlockNumber). y.0) (let z : f ≡ record { 0 = j } = cc in z) in
                let place : q.0 ≡ p = ap (λ (y : BlockPlace). y.0) (let z : q ≡ record { 0 = p } = cc in z) in
                rw (first, place) v
            go (inr (inr v)) =
                let same : step.Over f q ≡ step.Off = sym e ∙ x-is ∙ v.step_is in
                clash (let z : ◌≡◌ {A = ℕ} 0 1 = cc in z)

        pub between-asks : (f : BlockNumber) (q : BlockPlace) → x ≡ step.Over f q → Crossing t size level b q.0 (entered + 1)
        between-asks f q e =
            let v = over-case f q e in
            record { on = w.on; place-in = v.place-in; near = omega (arith, v.past, w.short); few = omega (arith, w.few) }

        pub between-by : (f : BlockNumber) (q : BlockPlace)
            → x ≡ step.Over f q → (r : prelude.Option Parts) → r ≡ gathered (entered + 1) (by_edges t level (f.0 + 0) q.0) → Whole r
        between-by f q e r r-is =
            let v = over-case f q e in
            r-is ∙ rw (add-zero f.0) (gathered-led (visit level i o ∷ []) entered 1 (by_edges t level f.0 q.0) refl)
            ∙ ap (gathered entered) (sym v.walk_is) ∙ rw left

        pub off-by : x ≡ step.Off → Whole None
        unfolding Cases down_to
        off-by e = go cases
          where
            go : ((j : ℕ) × (p : ℕ) × (n : ℕ) × Inside j p n) ⊎ (((j : ℕ) × (p : ℕ) × Between j p) ⊎ Off) → Whole None
            go (inl (j, p, k, v)) =
                let same : step.Off ≡ step.Down (record { 0 = at.link t level j }) (p / c) (record { 0 = p % c }) k = sym e ∙ x-is ∙ v.step_is in
                clash (let z : ◌≡◌ {A = ℕ} 0 1 = cc in z)
            go (inr (inl (j, p, v))) =
                let same : step.Off ≡ step.Over (record { 0 = j }) (record { 0 = p }) = sym e ∙ x-is ∙ v.step_is in
                clash (let z : ◌≡◌ {A = ℕ} 0 1 = cc in z)
            go (inr (inr v)) = gathered_none entered ∙ ap (gathered entered) (sym v.walk_is) ∙ rw left

        -- With so few blocks entered.
        pub down-few : (f : BlockNumber) (s : ℕ) (q : BlockPlace) (n : ℕ) → x ≡ step.Down f s q n → n ≤ 2
        down-few f s q n e = (down-case f s q n e).inside.few

-- From a place of the text, and from a block.
module _ (t : List ℕ) (h : Header) (k : HeaderOf t h) where
  pub top_pos : 0 < h.top_length
  top_pos = rw k.block_is (full-pos t k.facts 0)

  pub top-asks : (p len : ℕ) → len ≤ h.settings.leaf → Walking t h.record_size 0 h.top_length (p % h.top_length) len 0
  top-asks p len short = record {
    on = on-top t h k;
    place-in = mod-lt p top_pos;
    short = rw k.leaf_is at short;
    few = omega arith;
  }

  -- The bytes that were found are in the tree.
  pub within-tree : at.layout t ≡ 2
      → (len : ℕ) → 0 < len → len ≤ h.settings.leaf → (below l i o : ℕ) → l + below + 1 ≡ (at.settings t).levels → o < at.full_length t l
      → (r : prelude.Option Parts) (n : ℕ) → r ≡ gathered n (short_from t below l i o len) → InRange t len r
  unfolding gathered
  within-tree two len low short below l i o lev ho r n e =
      go (short_from t below l i o len) e (places.short-in t k.facts two len low (rw k.leaf_is at short) below l i o lev ho)
    where
      go : (x : Option Short) → r ≡ gathered n x → ((q : Short) → x ≡ some q → places.Inside t len q) → InRange t len r
      go none e f = rw e tt
      go (some q) e f = let z = f q refl in rw e (z.few, z.first_in, z.next-in)

  pub top-by : (p len : ℕ) → at.layout t ≡ 2 → 1 ≤ len → len ≤ h.settings.leaf → (r : prelude.Option Parts)
      → r ≡ gathered 0 (short_from t ((at.settings t).levels - 1 - 0) 0 (p / h.top_length + 0) (p % h.top_length) len)
      → (r ≡ gathered 0 (short_of t p len)) × InRange t len r
  unfolding short_of
  top-by p len two low short r e =
      let z : (at.settings t).levels - 1 - 0 ≡ (at.settings t).levels - 1 = omega arith in
      let same : r ≡ gathered 0 (short_from t ((at.settings t).levels - 1) 0 (p / at.full_length t 0) (p % at.full_length t 0) len) =
      rw (z, add-zero (p / h.top_length), k.block_is) at e in (
        same,
        within-tree two len low short ((at.settings t).levels - 1)
            0 (p / at.full_length t 0) (p % at.full_length t 0) (omega (arith, k.facts.bounds.levels_low)) (mod-lt p (full-pos t k.facts 0)) r 0 same,
      )

  -- The same from the block of level 0 that contains the place.
  module _ (p len : ℕ) (s : BlockPosition)
      (s-is : s ≡ record { block = record { 0 = p / h.top_length }; place = record { 0 = p % h.top_length } }) where
    pub position-asks : len ≤ h.settings.leaf → Walking t h.record_size 0 h.top_length s.place.0 len 0
    position-asks short = rw s-is (top-asks p len short)

    pub position-by : at.layout t ≡ 2 → 1 ≤ len → len ≤ h.settings.leaf → (r : prelude.Option Parts)
        → r ≡ gathered 0 (short_from t ((at.settings t).levels - 1 - 0) 0 (s.block.0 + 0) s.place.0 len)
        → (r ≡ gathered 0 (short_of t p len)) × InRange t len r
    position-by two low short r e = top-by p len two low short r (rw s-is at e)

-- The two parts that a walk finds, within the tree.
pub parts_in : (t : List ℕ) (x : ℕ) (found : prelude.Option Parts) (q : Parts) → found ≡ Some q → InRange t x found
    → (q.size ≤ x) × (q.from + q.size ≤ length t) × (q.next + (x - q.size) ≤ length t)
parts_in t x found q is w = rw is at w
