-- From level to level: what was written so far, and that every level has the settings of the first.
use mathlib.Core.List.{List}
use mathlib.Core.Path.{◌≡◌, refl, sym, subst}
use mathlib.Core.Logic.{inl}
use Prim.Native.Nat.{ℕ}
use Rattle.format.specs.Blocks.{tree_of}
use Rattle.layout.specs.declared.settings.Settings as code
use Rattle.build_records.specs.declared.level_written.Level.{Level}
use Rattle.build_records.specs.WritesOnlyTree.{WritesOnlyTree}
use Rattle.build_records.specs.State.{record_settings_of}
use Rattle.build_records.proofs.WritesOnlyTreeLaws.{only-tree-trans}
use Rattle.std.specs.Prelude as prelude
use Rattle.std.proofs.Common.{Some, None}
use Rattle.build_levels.specs.Trees.{LevelReady, StepIs, TreeComplete}

-- Before a level: it has the settings of the first, and the tree is written up to it.
pub record LevelReached (first : code.Settings) (cs T out₀ out : List ℕ) (level : Level) : Type 0 where
  pub same : level.settings ≡ first
  pub ready : LevelReady (record_settings_of first cs) T out level
  pub only_tree : WritesOnlyTree (tree_of (record_settings_of first cs) T) out₀ out

-- A step came to a level, or found no room for it.
module _ (first : code.Settings) (cs T out₀ new : List ℕ) (g : WritesOnlyTree (tree_of (record_settings_of first cs) T) out₀ new)
    (number : ℕ) (x : prelude.Option Level) (is : StepIs (record_settings_of first cs) T new first number x) where
  pub step-full : x ≡ None → TreeComplete (tree_of (record_settings_of first cs) T) new 0
  step-full e = inl (refl, is.full e)

  module _ (next : Level) (e : x ≡ Some next) where
    pub step-number : next.number ≡ number
    step-number = (is.to next e).1

    pub step-reached : LevelReached first cs T out₀ new next
    step-reached = record { same = (is.to next e).0; ready = (is.to next e).2; only_tree = g }

module _ (first : code.Settings) (cs T out₀ out : List ℕ) (level : Level) (r : LevelReached first cs T out₀ out level) where
  pub ready-here : LevelReady (record_settings_of level.settings cs) T out level
  ready-here = subst (λ (s : code.Settings). LevelReady (record_settings_of s cs) T out level) (sym r.same) r.ready

  -- What holds of the settings of the level holds of those of the first.
  module _ (new : List ℕ) where
    pub only-tree-here : WritesOnlyTree (tree_of (record_settings_of level.settings cs) T) out new
        → WritesOnlyTree (tree_of (record_settings_of first cs) T) out₀ new
    only-tree-here g = only-tree-trans
        (tree_of (record_settings_of first cs) T) out₀ out new r.only_tree
        (subst (λ (s : code.Settings). WritesOnlyTree (tree_of (record_settings_of s cs) T) out new) r.same g)

    pub finished-here : (n : ℕ) → TreeComplete (tree_of (record_settings_of level.settings cs) T) new n
        → TreeComplete (tree_of (record_settings_of first cs) T) new n
    finished-here n f = subst (λ (s : code.Settings). TreeComplete (tree_of (record_settings_of s cs) T) new n) r.same f

    pub step-here : (number : ℕ) (x : prelude.Option Level)
        → StepIs (record_settings_of level.settings cs) T new level.settings number x → StepIs (record_settings_of first cs) T new first number x
    step-here number x is = subst (λ (s : code.Settings). StepIs (record_settings_of s cs) T new s number x) r.same is
