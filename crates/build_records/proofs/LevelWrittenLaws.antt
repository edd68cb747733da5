-- Places of records.
use mathlib.Core.List.{List}
use mathlib.Core.Path.{◌≡◌, refl, sym}
use Prim.Native.Nat.{ℕ, ◌+◌, ◌*◌, ◌≤◌}
use native.Mathlib.Omega.{arith}
use native.Mathlib.Nat.{mul-le-mul}
use lib.ListN.{length}
use Rattle.format.specs.Layout.{plain_bytes, field_bytes, max_text, max_leaf, max_counted}
use Rattle.format.specs.SizeLaws.{max_record, record-edged}
use Rattle.format.specs.Blocks.{record_bytes, built_layout}
use Rattle.layout.specs.declared.settings.Settings as code
use Rattle.build_records.specs.State.{record_settings_of}

pub records-end : (block size : ℕ) → block ≤ max_text → size ≤ max_record → block * size ≤ max_record * max_text
records-end block size b few = mul-le-mul b few

-- The length of a record.
pub record-size-is : (s : code.Settings) (cs : List ℕ) → length cs ≤ max_counted → s.leaf ≤ max_leaf
    → (field_bytes (length cs) + (s.leaf + s.leaf) ≡ record_bytes (record_settings_of s cs)) × (plain_bytes ≤ field_bytes (length cs) + (s.leaf + s.leaf))
    × (field_bytes (length cs) + (s.leaf + s.leaf) ≤ max_record)
unfolding record_bytes
record-size-is s cs few small = (sym (record-edged built_layout s.leaf (length cs) refl), omega arith, omega arith)
