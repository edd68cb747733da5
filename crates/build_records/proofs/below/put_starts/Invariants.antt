use mathlib.Core.Path.{◌≡◌}
use Rattle.build_records.specs.WrittenStarts.{starts_written}
use Rattle.build_records.proofs.below.put_starts.Given as goal

abbrev pub invariant-loop-j : goal.invariant-loop-j
invariant-loop-j l = l.out ≡ starts_written l.initial.out l.at l.step l.start.0 l.size l.j
