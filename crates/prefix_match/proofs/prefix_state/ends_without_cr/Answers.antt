use Rattle.prefix_match.proofs.PrefixStateLaws.{ends-short, ends-full}
use Rattle.prefix_match.proofs.prefix_state.ends_without_cr.Goals as goal

pub returns-then-k-prefix : goal.returns-then-k-prefix
returns-then-k-prefix c = ends-short _ _ c.if-k-prefix.true

pub returns : goal.returns
returns c = ends-full _ _ c.if-k-prefix.false
