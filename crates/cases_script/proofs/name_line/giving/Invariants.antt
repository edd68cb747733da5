use Prim.Native.Nat.{◌-◌}
use lib.ListN.{length}
use Rattle.cases_script.proofs.NameLineLaws.{Left}
use Rattle.cases_script.proofs.name_line.giving.Given as goal

abbrev pub invariant-loop-at : goal.invariant-loop-at
invariant-loop-at l = Left l.s l.name l.at

abbrev pub decreases-loop-at : goal.decreases-loop-at
decreases-loop-at l = length l.s - l.at
