use Rattle.std.proofs.Common.{◌≡◌, ◌++◌, take, drop}
use Rattle.query_places.proofs.copy.Given as goal

abbrev pub invariant-loop-i : goal.invariant-loop-i
invariant-loop-i l = l.table ≡ take l.i l.few ++ drop l.i l.initial.table
