use native.Mathlib.Omega.{arith}
use Rattle.layout.specs.Record.{field_in}
use Rattle.walk_short.proofs.GatherLaws as laws
use Rattle.walk_short.proofs.gather.into.Goals as goal

pub link-link-requires : goal.link-link-requires
link-link-requires c = field_in _ c.requires.0 _ _ _ 2 c.requires.1 c.requires.2 c.requires.3 (omega arith)

pub div_rem-part-requires : goal.div_rem-part-requires
div_rem-part-requires c = c.requires.4

pub returns : goal.returns
returns c = laws.down_is _ _ _ _ _ _ _ c.link-link.ensures _ c.div_rem-part.ensures
