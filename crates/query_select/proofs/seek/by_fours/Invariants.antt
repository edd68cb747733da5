use Prim.Native.Nat.{ℕ, ◌+◌, ◌*◌, ◌≤◌, ◌<◌}
use Rattle.format.specs.Layout as at
use Rattle.query_select.proofs.seek.by_fours.Given as goal

abbrev pub invariant-loop-k : goal.invariant-loop-k
invariant-loop-k l = (x : ℕ) → l.first < x → x ≤ l.first + 4 * l.k → at.before l.t l.level x l.field.number < l.j
