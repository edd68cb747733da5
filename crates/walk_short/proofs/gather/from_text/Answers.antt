use mathlib.Core.Path.{◌∙◌}
use Rattle.walk_short.proofs.PackedLaws as packing
use Rattle.walk_short.proofs.WholeLaws as laws
use Rattle.walk_short.proofs.gather.from_text.Goals as goal

pub top_position-position-requires : goal.top_position-position-requires
top_position-position-requires c = laws.top_pos _ _ c.requires.0

pub gather_packed-code-requires : goal.gather_packed-code-requires
gather_packed-code-requires c = laws.position-asks _ _ c.requires.0 _ _ _ c.top_position-position.ensures c.requires.3

pub unpack-requires : goal.unpack-requires
unpack-requires c = packing.unpack-asks _ c.requires.0.facts c.requires.1 _ _ c.requires.0.size_is c.requires.0.leaf_is

pub returns : goal.returns
returns c = laws.position-by _ _ c.requires.0 _ _ _ c.top_position-position.ensures c.requires.1 c.requires.2 c.requires.3 _ (c.unpack.ensures ∙ c.gather_packed-code.ensures)
