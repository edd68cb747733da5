use Rattle.build_marking.proofs.TargetLaws as laws
use Rattle.build_marking.proofs.target.kept_block.Goals as goal

pub substring_of-own-requires : goal.substring_of-own-requires
substring_of-own-requires c = c.requires.block_next

pub parent-requires : goal.parent-requires
parent-requires c = c.requires.block_next.level_is.above_low

pub returns : goal.returns
returns c = laws.kept_is _ _ _ _ _ c.requires.block_next _ c.substring_of-own.ensures _ c.parent.ensures _ c.requires.i_value c.requires.link_value
