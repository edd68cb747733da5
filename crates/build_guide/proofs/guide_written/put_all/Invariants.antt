use mathlib.Core.Path.{◌≡◌}
use Rattle.build_guide.specs.EntriesWritten.{Puts}
use Rattle.query_guide.specs.Guides.{entries_before}
use Rattle.build_guide.proofs.guide_written.put_all.Given as goal

abbrev pub invariant-loop-c : goal.invariant-loop-c
invariant-loop-c l = record { place_is : l.place ≡ entries_before l.t l.c; puts : Puts l.t l.initial.table l.table 0 l.place }
