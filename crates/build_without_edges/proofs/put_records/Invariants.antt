use mathlib.Core.Path.{◌≡◌}
use Rattle.build_without_edges.proofs.WithoutEdgesLaws.{up_to}
use Rattle.build_without_edges.proofs.put_records.Given as goal

abbrev pub invariant-loop-j : goal.invariant-loop-j
invariant-loop-j l = l.out ≡ up_to l.tree l.j l.initial.out
