use Prim.Native.Nat.{◌+◌, ◌-◌, ◌*◌}
use Rattle.format.specs.Layout as at
use Rattle.query_select.proofs.seek.+kept_step_pointing_step.Given as goal

abbrev pub decreases-kept_step : goal.decreases-kept_step
decreases-kept_step l = 2 * ((at.settings l.t.now.now).levels - 1 - l.on.level)

abbrev pub decreases-pointing_step : goal.decreases-pointing_step
decreases-pointing_step l = 2 * ((at.settings l.t.now.now).levels - 1 - l.on.level) + 1
