use mathlib.Core.Bool.{true}
use mathlib.Core.Path.{◌≡◌}
use Rattle.check_links.specs.LevelAsked.{start_as_cut}
use Rattle.text.specs.Text.{all_below}
use Rattle.check_links.proofs.starts_right.Given as goal

abbrev pub invariant-loop-i : goal.invariant-loop-i
invariant-loop-i l = (all_below l.i (start_as_cut l.t) ≡ true)
