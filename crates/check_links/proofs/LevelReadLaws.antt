-- The header's words as the accessors of `Layout` name them, and the parts of a level.
use mathlib.Core.List.{List}
use mathlib.Core.Logic.{◌≢◌}
use mathlib.Core.Bool.{Bool, true, false}
use mathlib.Core.Path.{◌≡◌, refl, sym, ap, ◌∙◌}
use Prim.Native.Nat.{ℕ, ◌+◌, ◌-◌, ◌/◌, ◌≤◌, ◌<◌}
use native.Mathlib.Nat.{mul-div_cancel}
use native.Mathlib.Omega.{arith}
use borrow.Author.Tests.{eq-eqb, ne_eqb}
use lib.Dec.{eqb}
use lib.ListN.{length}
use Rattle.format.specs.Layout.{max_levels, max_text, header_length}
use Rattle.format.specs.Layout as at
use Rattle.format.specs.TreeReading.{last_level}
use Rattle.format.specs.LayoutLaws.{Readable, full-pos, full-small, full-step}
use Rattle.layout.specs.declared.header.Header.{Header}
use Rattle.layout.specs.HeaderFields.{HeaderOf}
use Rattle.check_links.specs.LevelAsked.{length_of_part, room_below}

-- The size that the blocks of a level are cut by.
pub part-fits : (t : List ℕ) → Readable t → (l part : ℕ) → part ≡ length_of_part t l → (0 < part) × (part ≤ max_text)
unfolding length_of_part
part-fits t k l part part_is = go (eqb l (last_level t)) refl
  where
    go : (b : Bool) → eqb l (last_level t) ≡ b → (0 < part) × (part ≤ max_text)
    go true e = rw (part_is, e) (omega arith, omega arith)
    go false e = rw (part_is, e) (full-pos t k (l + 1), full-small t k (l + 1))

module _ (t : List ℕ) (h : Header) (k : HeaderOf t h) where
  pub levels_is : h.settings.levels ≡ (at.settings t).levels
  levels_is = k.levels_is

  pub size_is : h.record_size ≡ at.record_size t
  size_is = k.size_is

  pub length_is : h.text_length ≡ at.text_length t
  length_is = k.length_is

  leaves_is : h.leaf_count ≡ at.leaf_count t
  leaves_is = k.count_is

  pub last_is : h.settings.levels - 1 ≡ last_level t
  unfolding last_level
  last_is = ap (λ (x : ℕ). x - 1) levels_is

  pub table-there : (l : ℕ) → l < h.settings.levels → (l < max_levels) × (header_length ≤ length t)
  table-there l i = (omega (arith, levels_is, k.facts.bounds.levels_high), k.facts.long)

  pub arity-pos : 0 < h.settings.arity
  arity-pos = omega (arith, k.arity_is, k.facts.bounds.arity_low)

  -- The block length one level down.
  pub full-below : (l b : ℕ) → b ≡ at.full_length t l → l + 1 < h.settings.levels → b / h.settings.arity ≡ at.full_length t (l + 1)
  full-below l b e above =
      let pos : 0 < (at.settings t).arity = omega (arith, k.facts.bounds.arity_low) in
      rw (k.arity_is, e, full-step t k.facts l (omega (arith, levels_is))) (mul-div_cancel (at.full_length t (l + 1)) pos)

  module _ (l : ℕ) where
    pub part-last : l ≡ h.settings.levels - 1 → 1 ≡ length_of_part t l
    unfolding length_of_part
    part-last e = rw (eq-eqb l (last_level t) (e ∙ last_is))

    pub room-last : l ≡ h.settings.levels - 1 → h.leaf_count ≡ room_below t l
    unfolding room_below
    room-last e = rw (eq-eqb l (last_level t) (e ∙ last_is)) leaves_is

    module _ (n : l ≡ h.settings.levels - 1 → ⊥) where
      pub room-above : (c : ℕ) → c ≡ at.level_count t (l + 1) → c ≡ room_below t l
      unfolding room_below
      room-above c e = rw (ne_eqb l (last_level t) (λ q. n (q ∙ sym last_is))) e

      pub below_in : l < h.settings.levels → l + 1 < h.settings.levels
      below_in i = let m : l ≢ h.settings.levels - 1 = n in omega arith

      pub part-above : (b : ℕ) → b ≡ at.full_length t l → l < h.settings.levels → b / h.settings.arity ≡ length_of_part t l
      unfolding length_of_part
      part-above b e i = rw (ne_eqb l (last_level t) (λ q. n (q ∙ sym last_is))) (full-below l b e (below_in i))
