use mathlib.Core.Path.{sym, ◌∙◌}
use Rattle.check_edges.proofs.TruthLaws as laws
use Rattle.check_edges.proofs.edges_match.edges_right.Goals as goal

pub returns-then-h-ne-EDGED : goal.returns-then-h-ne-EDGED
returns-then-h-ne-EDGED c = laws.plain-holds _ _ c.requires c.if-h-ne-EDGED.true

pub returns-then-not-level_right : goal.returns-then-not-level_right
returns-then-not-level_right c = laws.all-fail _ _ c.requires c.if-h-ne-EDGED.false _ c.loop-l-test.true (sym c.level_right.ensures ∙ c.if-not-level_right.true)

pub returns : goal.returns
returns c = laws.all_hold _ _ c.requires c.if-h-ne-EDGED.false _ c.loop-l.invariant c.loop-l-test.false
