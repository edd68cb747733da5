use Prim.Native.Nat.{ℕ}
use mathlib.Core.List.{List}
use mathlib.Core.Path.{◌≡◌}
use native.Mathlib.Omega.{arith}
use Rattle.format.specs.SizeLaws.{sizes-alone}
use Rattle.layout.proofs.HeaderLaws as laws
use Rattle.layout.proofs.HeaderCheck.{settings_are}
use Rattle.layout.specs.declared.settings.Settings.{Settings}
use Rattle.layout.specs.declared.header.Header.{Header}
use Rattle.layout.specs.SettingsLevel.{Sized}
use Rattle.layout.specs.Header.{HasSettings}
use Rattle.layout.proofs.header.fields.Goals as goal

-- A header is equal to another whose words are.
words : {v a g h k z v' a' g' h' k' z' : ℕ} {s s' : Settings} → v ≡ v' → a ≡ a' → s ≡ s' → g ≡ g' → h ≡ h' → k ≡ k' → z ≡ z'
    → ◌≡◌ {A = Header}
    (record { layout = v; text_length = a; settings = s; leaf_offset = g; leaf_count = h; top_length = k; record_size = z })
    (record { layout = v'; text_length = a'; settings = s'; leaf_offset = g'; leaf_count = h'; top_length = k'; record_size = z' })
words pv pa ps pg ph pk pz =
    λ i. record { layout = pv i; text_length = pa i; settings = ps i; leaf_offset = pg i; leaf_count = ph i; top_length = pk i; record_size = pz i }

sized : (t : List ℕ) (s : Settings) → HasSettings t s → Sized s 0
sized t s h = record { bounds = sizes-alone h.bounds; level_in = h.bounds.levels_low }

pub read-layout-requires : goal.read-layout-requires
read-layout-requires c = omega (arith, c.requires.long)

pub read-requires : goal.read-requires
read-requires c = omega (arith, c.requires.long)

pub read-requires-2 : goal.read-requires-2
read-requires-2 c = omega (arith, c.requires.long)

pub read-requires-3 : goal.read-requires-3
read-requires-3 c = omega (arith, c.requires.long)

pub block_length-requires : goal.block_length-requires
block_length-requires c = sized _ _ c.requires

pub record_size-requires : goal.record_size-requires
record_size-requires c = (c.requires.bounds.leaf_high, c.requires.bounds.counted_high)

pub returns : goal.returns
returns c = words c.read-layout.ensures
    c.read.ensures (settings_are _ _ c.requires)
    c.read-2.ensures c.read-3.ensures
    (laws.block_is _ _ c.requires _ c.block_length.ensures)
    (laws.size_is _ _ c.requires _ _ c.read-layout.ensures c.record_size.ensures.0)
