use mathlib.Core.Path.{sym, ap, ◌∙◌}
use borrow.Author.Rules.{rules}
use Rattle.prefix_match.specs.declared.prefix_state.PrefixState.{PrefixState}
use Rattle.prefix_match.specs.PrefixStates.{prefix_step}
use Rattle.prefix_match.proofs.prefix_state.step.Goals as goal

pub after_matched-requires : goal.after_matched-requires
unfolding prefix_step
after_matched-requires c = search rules

pub returns-in-Matched : goal.returns-in-Matched
unfolding prefix_step
returns-in-Matched c = c.after_matched.ensures ∙ sym (ap (λ (f : PrefixState). prefix_step c.args.prefix.now f c.args.byte) c.in-Matched.is)

pub returns-in-Longer : goal.returns-in-Longer
unfolding prefix_step
returns-in-Longer c = search rules

pub returns-in-Mismatch : goal.returns-in-Mismatch
unfolding prefix_step
returns-in-Mismatch c = search rules
