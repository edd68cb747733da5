-- A field's place, as the code computes it.
use mathlib.Core.List.{List}
use mathlib.Core.Path.{◌≡◌, ap, ◌∙◌}
use Prim.Native.Nat.{ℕ, ◌+◌, ◌*◌, ◌≤◌}
use native.Mathlib.Omega.{arith}
use lib.ListN.{length}
use Rattle.format.specs.Layout.{word_at, field_bytes, offset_at}
use Rattle.format.specs.Layout as at
use Rattle.layout.specs.Record.{FieldIn, EdgesIn}

module _ (t : List ℕ) (size level block f table : ℕ) (h : FieldIn t size level block f) (is : table ≡ word_at t (offset_at level)) where
  pub place_is : table + block * size + 4 * f ≡ at.level_offset t level + block * at.record_size t + 4 * f
  unfolding at.level_offset
  place_is = rw (h.size_is, is)

  pub place-in : table + block * size + 4 * f + 4 ≤ length t
  place-in = omega (arith, h.inside, place_is)

  pub field_is : (v : ℕ) → v ≡ word_at t (table + block * size + 4 * f) → v ≡ at.field t level block f
  unfolding at.field
  field_is v e = e ∙ ap (word_at t) place_is

-- The offset of the edges of a block.
pub edges_are : (t : List ℕ) (size counted level block table : ℕ) → EdgesIn t size counted level → table ≡ word_at t (offset_at level)
    → (z : ℕ) → z ≡ block * size → table + z + field_bytes counted ≡ at.edges_at t level block
unfolding at.edges_at at.level_offset
edges_are t size counted level block table h is z z-is = rw (z-is, h.size_is, h.counted_is, is)
