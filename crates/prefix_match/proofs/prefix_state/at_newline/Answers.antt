use mathlib.Core.Path.{sym, ap, ◌∙◌}
use borrow.Author.Rules.{rules}
use Rattle.prefix_match.specs.PrefixStates.{prefix_at_newline}
use Rattle.prefix_match.proofs.prefix_state.at_newline.Goals as goal

pub ends_without_cr-requires : goal.ends_without_cr-requires
unfolding prefix_at_newline
ends_without_cr-requires c = search rules

pub returns-in-Matched : goal.returns-in-Matched
unfolding prefix_at_newline
returns-in-Matched c = c.ends_without_cr.ensures ∙ sym (ap (prefix_at_newline c.args.prefix.now) c.in-Matched.is)

pub returns-in-Longer : goal.returns-in-Longer
unfolding prefix_at_newline
returns-in-Longer c = search rules

pub returns-in-Mismatch : goal.returns-in-Mismatch
unfolding prefix_at_newline
returns-in-Mismatch c = search rules
