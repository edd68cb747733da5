use Prim.Native.Nat.{◌-◌}
use mathlib.Core.Path.{◌≡◌}
use Rattle.format.specs.Layout as at
use Rattle.format.specs.Answers.{paths_hold}
use Rattle.query_places.specs.TableFilled.{Seeking}
use Rattle.query_places.proofs.pattern_seek.seek.Given as goal

abbrev pub invariant-loop-m : goal.invariant-loop-m
invariant-loop-m l =
    Seeking l.t l.pattern l.room l.initial.table l.m l.table × (paths_hold l.t l.m.place.0 (at.text_length l.t - l.m.place.0) ≡ paths_hold l.t 0 (at.text_length l.t))

abbrev pub decreases-loop-m : goal.decreases-loop-m
decreases-loop-m l = at.text_length l.t - l.m.place.0
