use mathlib.Core.Path.{refl}
use Rattle.walk_steps.proofs.StepLaws as laws
use Rattle.walk_steps.proofs.child.Goals as goal

pub link-link-requires : goal.link-link-requires
link-link-requires c = laws.link-there _ _ _ _ _ c.requires.0 c.requires.1

pub div_rem-part-requires : goal.div_rem-part-requires
div_rem-part-requires c = laws.b-pos _ _ _ _ c.requires.0

pub returns-then-count-number : goal.returns-then-count-number
returns-then-count-number c = laws.child-past _ _ _ _ _ _ _ _ c.link-link.ensures c.level_count-count.ensures c.div_rem-part.ensures c.if-count-number.true

pub returns : goal.returns
returns c = laws.child-there
    _ _ _ _ _ _ _ _ c.link-link.ensures c.level_count-count.ensures c.div_rem-part.ensures _ refl c.if-count-number.false
