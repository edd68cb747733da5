use Rattle.prefix_match.proofs.PrefixStateLaws.{after-all, after_same, after-other}
use Rattle.prefix_match.proofs.prefix_state.after_matched.Goals as goal

pub returns-then-prefix-at : goal.returns-then-prefix-at
returns-then-prefix-at c = after-all _ _ _ c.if-prefix-at.true

pub returns-then-prefix-at-2 : goal.returns-then-prefix-at-2
returns-then-prefix-at-2 c = after_same _ _ _ c.if-prefix-at.false c.if-prefix-at-2.true

pub returns : goal.returns
returns c = after-other _ _ _ c.if-prefix-at.false c.if-prefix-at-2.false
