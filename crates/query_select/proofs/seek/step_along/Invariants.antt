use Prim.Native.Nat.{ℕ, ◌≤◌, ◌<◌}
use Rattle.format.specs.Layout as at
use Rattle.query_select.proofs.seek.step_along.Given as goal

abbrev pub invariant-loop-i : goal.invariant-loop-i
invariant-loop-i l = (k : ℕ) → l.from < k → k ≤ l.i → at.before l.t l.level k l.field.number < l.j
