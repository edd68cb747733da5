use mathlib.Core.Path.{sym, ap}
use borrow.Author.Rules.{rules}
use Rattle.keys.specs.KeyStates.{is_none}
use Rattle.keys.proofs.key_state.is_empty.Goals as goal

pub returns-in-Code : goal.returns-in-Code
unfolding is_none
returns-in-Code c = sym (ap is_none c.in-Code.is)

pub returns-in-Cuts : goal.returns-in-Cuts
unfolding is_none
returns-in-Cuts c = search rules

pub returns-in-Ended : goal.returns-in-Ended
unfolding is_none
returns-in-Ended c = search rules

pub returns-in-Wrong : goal.returns-in-Wrong
unfolding is_none
returns-in-Wrong c = search rules
