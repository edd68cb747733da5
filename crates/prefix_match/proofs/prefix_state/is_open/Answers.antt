use mathlib.Core.Path.{sym, ap}
use Rattle.prefix_match.specs.PrefixStates.{is_open}
use Rattle.prefix_match.proofs.prefix_state.is_open.Goals as goal

pub returns-in-Matched : goal.returns-in-Matched
unfolding is_open
returns-in-Matched c = sym (ap is_open c.in-Matched.is)

pub returns-in-Longer : goal.returns-in-Longer
unfolding is_open
returns-in-Longer c = sym (ap is_open c.in-Longer.is)

pub returns-in-Mismatch : goal.returns-in-Mismatch
unfolding is_open
returns-in-Mismatch c = sym (ap is_open c.in-Mismatch.is)
