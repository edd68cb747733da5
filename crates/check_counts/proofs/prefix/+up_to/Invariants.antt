use Prim.Native.Nat.{◌-◌}
use Rattle.format.specs.Layout as at
use Rattle.check_counts.proofs.prefix.+up_to.Given as goal

abbrev pub decreases-up_to : goal.decreases-up_to
decreases-up_to l = (at.settings l.t.now.now).levels - l.on.level
