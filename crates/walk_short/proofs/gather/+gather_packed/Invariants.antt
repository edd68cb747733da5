use Prim.Native.Nat.{◌-◌}
use Rattle.format.specs.Layout as at
use Rattle.walk_short.proofs.gather.+gather_packed.Given as goal

abbrev pub decreases-gather_packed : goal.decreases-gather_packed
decreases-gather_packed l = (at.settings l.t.now.now).levels - l.level
