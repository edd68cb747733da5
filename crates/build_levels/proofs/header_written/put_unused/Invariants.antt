use Prim.Native.Nat.{◌-◌}
use mathlib.Core.Path.{◌≡◌}
use Rattle.build_levels.specs.Head.{unused_written}
use Rattle.build_levels.proofs.header_written.put_unused.Given as goal

abbrev pub invariant-loop-number : goal.invariant-loop-number
invariant-loop-number l = l.out ≡ unused_written l.initial.out l.levels (l.number - l.levels)
