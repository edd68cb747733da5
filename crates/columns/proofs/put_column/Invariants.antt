use mathlib.Core.Path.{◌≡◌}
use Prim.Native.Nat.{◌*◌}
use lib.ListN.{drop}
use lib.Seq.{paste}
use Rattle.columns.specs.Columns.{transposed}
use Rattle.columns.proofs.put_column.Given as goal

abbrev pub invariant-loop-a : goal.invariant-loop-a
invariant-loop-a l = l.out ≡ paste l.initial.out (l.b * l.rows) (drop (l.b * l.rows) (transposed l.rows l.width l.text)) l.a
