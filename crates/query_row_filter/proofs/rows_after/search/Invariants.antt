use Prim.Native.Nat.{◌-◌}
use Rattle.query_row_filter.proofs.RowsAfterLaws.{Searching}
use Rattle.query_row_filter.proofs.rows_after.search.Given as goal

abbrev pub invariant-loop-at : goal.invariant-loop-at
invariant-loop-at g l = Searching l.t (g.A.RowAutomaton.automaton l.automaton) l.initial.at l.q l.at l.row l.so_far

abbrev pub decreases-loop-at : goal.decreases-loop-at
decreases-loop-at g l = l.h.text_length - l.at
