use Prim.Native.Nat.{ℕ, ◌<◌}
use mathlib.Core.Bool.{true}
use mathlib.Core.Path.{◌≡◌}
use Rattle.theory_edges.specs.EdgesLocal.{edges_local}
use Rattle.check_edges.proofs.edges_match.level_right.Given as goal

abbrev pub invariant-loop-i : goal.invariant-loop-i
invariant-loop-i l = (x : ℕ) → x < l.i → edges_local l.t l.level x ≡ true
