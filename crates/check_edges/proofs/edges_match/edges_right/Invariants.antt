use Prim.Native.Nat.{ℕ, ◌<◌}
use mathlib.Core.Bool.{true}
use mathlib.Core.Path.{◌≡◌}
use Rattle.theory_edges.specs.EdgesLocal.{level_edges}
use Rattle.check_edges.proofs.edges_match.edges_right.Given as goal

abbrev pub invariant-loop-l : goal.invariant-loop-l
invariant-loop-l l = (x : ℕ) → x < l.l → level_edges l.t x ≡ true
