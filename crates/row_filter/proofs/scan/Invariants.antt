use Prim.Native.Nat.{◌-◌}
use lib.ListN.{length}
use Rattle.row_filter.specs.RowAutomatonLaws.{Scanning}
use Rattle.row_filter.proofs.scan.Given as goal

abbrev pub invariant-loop-i : goal.invariant-loop-i
invariant-loop-i g l = Scanning (g.A.RowAutomaton.automaton l.automaton) l.part l.initial.so_far l.row l.i l.so_far l.q

abbrev pub decreases-loop-i : goal.decreases-loop-i
decreases-loop-i g l = length l.part - l.i
