use Prim.Native.Nat.{ℕ, ◌+◌, ◌≤◌}
use mathlib.Core.Path.{◌≡◌, sym}
use native.Mathlib.Omega.{arith}
use Rattle.format.specs.Layout.{field_bytes, record_length, max_leaf, max_counted}
use Rattle.format.specs.SizeLaws.{max_record, record-plain, record-edged}
use Rattle.layout.proofs.settings.Settings.record_size.Goals as goal

-- The length, and that it is within its bound.
pub with-edges : (v m k : ℕ) → m ≤ max_leaf → k ≤ max_counted → v ≡ 2 → (field_bytes k + (m + m) ≡ record_length v m k) × (field_bytes k + (m + m) ≤ max_record)
with-edges v m k hm hk e = (sym (record-edged v m k e), omega arith)

pub without : (v m k : ℕ) → k ≤ max_counted → (v ≡ 2 → ⊥) → (field_bytes k ≡ record_length v m k) × (field_bytes k ≤ max_record)
without v m k hk h = (sym (record-plain v m k h), omega arith)

pub returns-then-layout-eq-EDGED : goal.returns-then-layout-eq-EDGED
returns-then-layout-eq-EDGED c = with-edges _ _ _ c.requires.0 c.requires.1 c.if-layout-eq-EDGED.true

pub returns : goal.returns
returns c = without _ _ _ c.requires.1 c.if-layout-eq-EDGED.false
