-- The loops over the blocks of a level and over the levels decide question 8.
use mathlib.Core.List.{List}
use mathlib.Core.Bool.{Bool, true, false, ◌&&◌}
use mathlib.Core.Path.{◌≡◌, refl, sym, ap, ◌∙◌}
use Prim.Native.Nat.{ℕ, ◌+◌, ◌-◌, ◌*◌, ◌≤◌, ◌<◌}
use native.Mathlib.Omega.{arith}
use borrow.Author.Tests.{eq-eqb, ne_eqb}
use lib.Dec.{eqb}
use Rattle.text.specs.Text.{all_below, sum_below}
use Rattle.text.specs.ListLaws.{sum_below-part, sum_below-suc, all_below-not}
use Rattle.format.specs.Layout as at
use Rattle.format.specs.TreeReading.{width_at, block_right, count_below_right, links_ok}
use Rattle.layout.specs.declared.header.Header.{Header}
use Rattle.check_links.specs.declared.level_read.Level.{Level}
use Rattle.layout.specs.HeaderFields.{HeaderOf}
use Rattle.check_links.specs.LevelAsked.{LevelOf, room_below, start_as_cut, level_right}
use Rattle.check_links.proofs.LevelReadLaws.{levels_is}

pub none_before : (f : ℕ → ℕ) → 0 ≡ sum_below 0 f
unfolding sum_below
none_before f = refl

and-fails : {a : Bool} (b : Bool) → a ≡ false → false ≡ (a && b)
and-fails b e = rw e

and_second : (a : Bool) {b : Bool} → b ≡ false → false ≡ (a && b)
and_second true e = sym e
and_second false e = refl

first-held : (a : Bool) {b : Bool} → b ≡ true → (r : Bool) → r ≡ a → r ≡ (a && b)
first-held true p r e = e ∙ sym p
first-held false p r e = e

second-held : (b : Bool) {a : Bool} → a ≡ true → (r : Bool) → r ≡ b → r ≡ (a && b)
second-held b p r e = rw p e

module _ (t : List ℕ) (v : Level) (k : LevelOf t v) where
  -- A block of level 0.
  module _ (i start : ℕ) (is : start ≡ at.start t 0 i) (zeroth : v.number ≡ 0) where
    full-0 : v.full ≡ at.full_length t 0
    full-0 = k.full_is ∙ ap (at.full_length t) zeroth

    pub start-off : (start ≡ i * v.full → ⊥) → start_as_cut t i ≡ false
    start-off n = ne_eqb _ _ (λ e. n (is ∙ rw full-0 e))

    pub start-on : start ≡ i * v.full → start_as_cut t i ≡ true
    start-on e = eq-eqb _ _ (sym is ∙ rw full-0 at e)

  pub count-0 : v.number ≡ 0 → v.count ≡ at.level_count t 0
  count-0 zeroth = k.count_is ∙ ap (at.level_count t) zeroth

  -- The sum of the widths is the count one level below.
  sum-right : count_below_right t v.number ≡ eqb (sum_below v.count (width_at t v.number)) v.room
  unfolding count_below_right room_below
  sum-right = rw (k.count_is, k.room_is)

  module _ (i before width : ℕ) (h : i < v.count) (before-is : before ≡ sum_below i (width_at t v.number)) (width_is : width ≡ width_at t v.number i) where
    pub room-short : before ≤ v.room → v.room - before < width → false ≡ level_right t v.number
    unfolding level_right
    room-short b s =
        let part = sum_below-part v.count (width_at t v.number) i h in
        and-fails _ (sum-right ∙ ne_eqb (sum_below v.count (width_at t v.number)) v.room (λ e. omega arith))

    pub block-off : block_right t v.number i ≡ false → false ≡ level_right t v.number
    unfolding level_right
    block-off f = and_second (count_below_right t v.number) (all_below-not (at.level_count t v.number) (block_right t v.number) i (rw k.count_is at h) f)

    pub before_more : before + width ≡ sum_below (i + 1) (width_at t v.number)
    before_more = rw (sum_below-suc i (width_at t v.number), before-is, width_is)

  pub level-done : (i before : ℕ) → i ≤ v.count → v.count ≤ i → before ≡ sum_below i (width_at t v.number) → all_below i (block_right t v.number) ≡ true
      → eqb before v.room ≡ level_right t v.number
  unfolding level_right
  level-done i before a b e all =
      let q : i ≡ v.count = omega arith in
      first-held (count_below_right t v.number) (rw (← k.count_is, ← q) all) _ (sym (rw (sum-right, ← q, e)))

-- The whole of question 8.
module _ (t : List ℕ) where
  pub same-level : (l x : ℕ) (b : Bool) → x ≡ l → level_right t x ≡ b → level_right t l ≡ b
  same-level l x b e h = rw e at h

  pub starts-off : (c : ℕ) → c ≡ at.level_count t 0 → all_below c (start_as_cut t) ≡ false → false ≡ links_ok t
  unfolding links_ok
  starts-off c e f = and-fails _ (rw e at f)

  module _ (c : ℕ) (c_is : c ≡ at.level_count t 0) (starts : all_below c (start_as_cut t) ≡ true) (h : Header) (k : HeaderOf t h) where
    pub levels-done : (r : Bool) → r ≡ all_below h.settings.levels (level_right t) → r ≡ links_ok t
    unfolding links_ok level_right
    levels-done r e = second-held _ (rw c_is at starts) r (rw (levels_is t h k) at e)
