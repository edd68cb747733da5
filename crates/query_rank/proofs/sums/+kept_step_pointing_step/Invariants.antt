use mathlib.Core.List.{List}
use Prim.Native.Nat.{ℕ, ◌+◌, ◌-◌, ◌*◌}
use Rattle.format.specs.Layout as at
use Rattle.query_rank.proofs.sums.+kept_step_pointing_step.Given as goal

abbrev pub levels : List ℕ → ℕ
levels t = (at.settings t).levels

abbrev pub decreases-kept_step : goal.decreases-kept_step
decreases-kept_step l = 2 * (levels l.t.now.now - 1 - l.level)

abbrev pub decreases-pointing_step : goal.decreases-pointing_step
decreases-pointing_step l = 2 * (levels l.t.now.now - 1 - l.level) + 1
