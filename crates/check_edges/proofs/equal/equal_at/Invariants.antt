use mathlib.Core.Bool.{true}
use mathlib.Core.Path.{◌≡◌}
use Rattle.text.specs.Text.{same_list, substring}
use Rattle.check_edges.proofs.equal.equal_at.Given as goal

abbrev pub invariant-loop-i : goal.invariant-loop-i
invariant-loop-i l = same_list (substring l.t l.p l.i) (substring l.t l.q l.i) ≡ true
