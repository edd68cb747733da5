use Rattle.query_select.proofs.LandLaws as laws
use Rattle.query_select.proofs.seek.to_kept.Goals as goal

pub classify_block-requires : goal.classify_block-requires
classify_block-requires c = c.requires.0

pub from_pointer-requires : goal.from_pointer-requires
from_pointer-requires c = (laws.itself-points _ _ _ _ _ _ _ c.requires.0 c.requires.1 _ c.classify_block.ensures _ _ c.in-Points.is, c.requires.1)

pub returns-in-Kept : goal.returns-in-Kept
returns-in-Kept c = laws.itself-kept _ _ _ _ _ _ _ c.requires.0 c.requires.1 _ c.classify_block.ensures _ _ c.in-Kept.is

pub returns-in-Points : goal.returns-in-Points
returns-in-Points c = c.from_pointer.ensures

pub returns-in-Off : goal.returns-in-Off
returns-in-Off c = laws.itself-off _ _ _ _ _ _ _ c.requires.0 c.requires.1 _ c.classify_block.ensures c.in-Off.is
