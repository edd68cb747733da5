use mathlib.Core.Path.{◌∙◌}
use Rattle.walk_short.proofs.PackedLaws as laws
use Rattle.walk_short.proofs.gather.gather.Goals as goal

pub unpack-requires : goal.unpack-requires
unpack-requires c = laws.unpack-asks _ c.requires.0.on.facts c.requires.1 _ _ c.requires.0.on.size_is (laws.leaf-word-is _ _ c.read-m.ensures)

pub returns : goal.returns
returns c = c.unpack.ensures ∙ c.gather_packed-code.ensures
