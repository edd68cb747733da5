use Prim.Native.Nat.{◌-◌}
use Rattle.query_compare.specs.Compared.{shortest, Comparing}
use Rattle.query_compare.proofs.side_by_side.by_places.Given as goal

abbrev pub invariant-loop-m : goal.invariant-loop-m
invariant-loop-m l = Comparing l.one l.other l.m

abbrev pub decreases-loop-m : goal.decreases-loop-m
decreases-loop-m l = shortest l.one l.other - l.m.place.0
