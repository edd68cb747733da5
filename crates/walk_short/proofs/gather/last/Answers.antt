use mathlib.Core.Path.{refl, ◌∙◌}
use Rattle.walk_short.proofs.PackedLaws.{unpacked-none}
use Rattle.walk_short.proofs.GatherLaws as laws
use Rattle.walk_short.proofs.gather.last.Goals as goal

pub leaf_part-requires : goal.leaf_part-requires
leaf_part-requires c = (
  c.requires.0.facts,
  c.requires.0.size_is,
  c.requires.0.level_in,
  laws.last-kept _ _ _ _ 0 0 _ c.classify_next-next.ensures _ _ c.in-Kept.is,
  c.requires.1,
  c.requires.2,
)

pub returns-in-Kept : goal.returns-in-Kept
returns-in-Kept c = laws.last-by _ _ _ _ _ _ _ c.classify_next-next.ensures _ _ c.in-Kept.is _
    c.leaf_part.ensures

pub returns-in-Points : goal.returns-in-Points
returns-in-Points c = unpacked-none _ _ refl ∙ laws.last-points _ _ _ _ _ _ _ c.classify_next-next.ensures _ _ c.in-Points.is

pub returns-in-Off : goal.returns-in-Off
returns-in-Off c = unpacked-none _ _ refl ∙ laws.last_off _ _ _ _ _ _ _ c.classify_next-next.ensures c.in-Off.is
