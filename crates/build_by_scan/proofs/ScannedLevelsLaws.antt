-- From level to level, with the windows looked up so far.
use mathlib.Core.List.{List}
use mathlib.Core.Path.{◌≡◌, sym, ap, ◌∙◌, subst}
use Prim.Native.Nat.{ℕ, ◌+◌, ◌-◌, ◌*◌, ◌≤◌, ◌<◌}
use native.Mathlib.Omega.{arith}
use lib.ListN.{length}
use Rattle.text.specs.Text.{sum_below}
use Rattle.text.specs.ListLaws.{sum_below-suc}
use Rattle.format.specs.Layout.{max_text, pieces, max_levels}
use Rattle.layout.specs.declared.settings.Settings as code
use Rattle.build_records.specs.declared.level_written.Level.{Level}
use Rattle.build_records.specs.State.{record_settings_of}
use Rattle.build_records.proofs.WritesOnlyTreeLaws.{only-tree-refl}
use Rattle.build_levels.specs.Trees.{LevelReady}
use Rattle.build_by_search.proofs.AllLevelsLaws.{LevelReached}
use Rattle.build_by_scan.specs.ScanAnswers.{windows_at, windows_of}

-- Before a level: the tree is written up to it, and the windows of the levels above are counted.
pub record ScanReached (first : code.Settings) (cs T out₀ out : List ℕ) (level : Level) (windows : ℕ) : Type 0 where
  pub reached : LevelReached first cs T out₀ out level
  pub windows_are : windows ≡ sum_below level.number (windows_at (record_settings_of first cs) T)
  pub windows_few : windows ≤ level.number * (4 * max_text)

module _ (first : code.Settings) (cs T out₀ : List ℕ) where
  pub along-first : (level : Level)
      → level.settings ≡ first → level.number ≡ 0 → LevelReady (record_settings_of first cs) T out₀ level
      → ScanReached first cs T out₀ out₀ level 0
  unfolding sum_below
  along-first level s z r = record {
    reached = record { same = s; ready = r; only_tree = only-tree-refl _ _ };
    windows_are = rw z;
    windows_few = omega arith;
  }

  module _ (out : List ℕ) (level : Level) (windows : ℕ) (a : ScanReached first cs T out₀ out level windows) where
    module _ (more : ℕ) (more-is : more ≡ windows_at (record_settings_of level.settings cs) T level.number) (few : more ≤ 4 * max_text) where
      pub along-next : (out' : List ℕ) (next : Level)
          → LevelReached first cs T out₀ out' next → next.number ≡ level.number + 1 → ScanReached first cs T out₀ out' next (windows + more)
      along-next out' next r n = record {
        reached = r;
        windows_are = rw (n, a.windows_are, more-is, a.reached.same) (sym (sum_below-suc level.number (windows_at (record_settings_of first cs) T)));
        windows_few = omega (arith, a.windows_few);
      }

      pub windows-fit : level.number < max_levels → windows + more ≤ max_levels * (4 * max_text)
      windows-fit l = omega (arith, a.windows_few)

    pub windows-all : level.number + 1 ≡ first.levels → windows ≡ windows_of (record_settings_of first cs) T
    unfolding windows_of
    windows-all e = a.windows_are
        ∙ ap (λ (k : ℕ). sum_below k (windows_at (record_settings_of first cs) T)) (let q : level.number ≡ first.levels - 1 = omega arith in q)

-- The first level has the settings that were given.
module _ (first : code.Settings) (cs T out₀ out : List ℕ) (level : Level) (r : LevelReached first cs T out₀ out level) where
  pub room_of : (n : ℕ) → 4 * pieces (length T) first.leaf ≤ n → 4 * pieces (length T) level.settings.leaf ≤ n
  room_of n room = subst (λ (s : code.Settings). 4 * pieces (length T) s.leaf ≤ n) (sym r.same) room

  pub windows-of : (w : ℕ) → w ≡ windows_of (record_settings_of level.settings cs) T → w ≡ windows_of (record_settings_of first cs) T
  windows-of w e = e ∙ ap (λ (s : code.Settings). windows_of (record_settings_of s cs) T) r.same
