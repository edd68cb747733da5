use Prim.Native.Nat.{◌+◌, ◌-◌, ◌*◌}
use Rattle.format.specs.Layout as at
use Rattle.walk_path.proofs.+kept_step_pointing_step.Given as goal

abbrev pub decreases-kept_step : goal.decreases-kept_step
decreases-kept_step l = 2 * ((at.settings l.t.now.now).levels - 1 - l.level)

abbrev pub decreases-pointing_step : goal.decreases-pointing_step
decreases-pointing_step l = 2 * ((at.settings l.t.now.now).levels - 1 - l.level) + 1
