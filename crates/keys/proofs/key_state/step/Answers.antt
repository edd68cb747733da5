use mathlib.Core.Path.{sym, ap, ◌∙◌}
use borrow.Author.Rules.{rules}
use Rattle.keys.specs.declared.key_state.KeyState.{KeyState}
use Rattle.keys.specs.KeyStates.{step_of}
use Rattle.keys.proofs.key_state.step.Goals as goal

pub in_code-requires : goal.in_code-requires
unfolding step_of
in_code-requires c = search rules

pub in_cuts-requires : goal.in_cuts-requires
unfolding step_of
in_cuts-requires c = search rules

pub returns-in-Code : goal.returns-in-Code
unfolding step_of
returns-in-Code c = c.in_code.ensures ∙ sym (ap (λ (f : KeyState). step_of c.args.ranges.now f c.args.byte) c.in-Code.is)

pub returns-in-Cuts : goal.returns-in-Cuts
unfolding step_of
returns-in-Cuts c = c.in_cuts.ensures ∙ sym (ap (λ (f : KeyState). step_of c.args.ranges.now f c.args.byte) c.in-Cuts.is)

pub returns-in-Ended : goal.returns-in-Ended
unfolding step_of
returns-in-Ended c = search rules

pub returns-in-Wrong : goal.returns-in-Wrong
unfolding step_of
returns-in-Wrong c = search rules
