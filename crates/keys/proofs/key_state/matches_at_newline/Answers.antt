use mathlib.Core.Path.{sym, ap}
use borrow.Author.Rules.{rules}
use Rattle.keys.specs.Keys.{cut_count}
use Rattle.keys.specs.KeyStates.{is_done}
use Rattle.keys.proofs.key_state.matches_at_newline.Goals as goal

pub returns-in-Code : goal.returns-in-Code
unfolding is_done cut_count
returns-in-Code c = search rules

pub returns-in-Cuts : goal.returns-in-Cuts
unfolding is_done cut_count
returns-in-Cuts c = sym (ap (is_done c.args.ranges.now) c.in-Cuts.is)

pub returns-in-Ended : goal.returns-in-Ended
unfolding is_done cut_count
returns-in-Ended c = search rules

pub returns-in-Wrong : goal.returns-in-Wrong
unfolding is_done cut_count
returns-in-Wrong c = search rules
