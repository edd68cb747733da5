use mathlib.Core.Path.{sym, ap}
use borrow.Author.Rules.{rules}
use Rattle.prefix_match.specs.PrefixStates.{prefix_at_end}
use Rattle.prefix_match.proofs.prefix_state.at_end.Goals as goal

pub returns-in-Matched : goal.returns-in-Matched
unfolding prefix_at_end
returns-in-Matched c = sym (ap (prefix_at_end c.args.prefix.now) c.in-Matched.is)

pub returns-in-Longer : goal.returns-in-Longer
unfolding prefix_at_end
returns-in-Longer c = search rules

pub returns-in-Mismatch : goal.returns-in-Mismatch
unfolding prefix_at_end
returns-in-Mismatch c = search rules
