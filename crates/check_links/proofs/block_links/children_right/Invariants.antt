use mathlib.Core.Bool.{true}
use mathlib.Core.Path.{◌≡◌}
use Rattle.check_links.specs.LevelAsked.{child_as_cut}
use Rattle.text.specs.Text.{all_below}
use Rattle.check_links.proofs.block_links.children_right.Given as goal

abbrev pub invariant-loop-j : goal.invariant-loop-j
invariant-loop-j l = (all_below l.j (child_as_cut l.t l.v.number l.first.0 l.start.0) ≡ true)
