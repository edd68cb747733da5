use mathlib.Core.List.{◌++◌}
use mathlib.Core.Path.{◌≡◌}
use Prim.Native.Nat.{◌*◌}
use lib.ListN.{take, drop}
use Rattle.columns.specs.Columns.{transposed}
use Rattle.columns.proofs.transpose.Given as goal

abbrev pub invariant-loop-b : goal.invariant-loop-b
invariant-loop-b l = l.out ≡ take (l.b * l.rows) (transposed l.rows l.width l.text) ++ drop (l.b * l.rows) l.initial.out
