use Prim.Native.Nat.{ℕ, ◌+◌, ◌-◌, ◌≤◌}
use lib.ListN.{length}
use mathlib.Core.List.{List}
use mathlib.Core.Path.{◌≡◌}
use Rattle.query_places.specs.TableFilled.{Even, Seeking}
use Rattle.query_places.proofs.pattern_seek.feed.Given as goal

abbrev pub invariant-loop-i : goal.invariant-loop-i
invariant-loop-i l =
    (l.i ≤ l.size) × (l.at.place.0 ≡ l.initial.at.place.0 + l.i) × (length l.table ≡ length l.initial.table) × (Even l.pattern l.at)
    × ((before : List ℕ) → Seeking l.t l.pattern l.room before l.initial.at l.initial.table → Seeking l.t l.pattern l.room before l.at l.table)

abbrev pub decreases-loop-i : goal.decreases-loop-i
decreases-loop-i l = l.size - l.i
