use Rattle.walk_group.proofs.GroupLaws as laws
use Rattle.walk_group.proofs.step.Goals as goal

pub resolve_target-there-requires : goal.resolve_target-there-requires
resolve_target-there-requires c = laws.step-pointing _ _ _ _ _ _ _ c.requires.0 c.requires.1 c.requires.2 _ c.classify_block-here.ensures _ _ c.in-Points.is

pub returns-in_default : goal.returns-in_default
returns-in_default c = laws.step-no-target _ _ _ _ _ _ _ c.requires.0 c.requires.1 c.requires.2 _ c.classify_block-here.ensures _ _ c.in-Points.is
    _ c.resolve_target-there.ensures c.in_default.is

pub child-requires-in-Points : goal.child-requires-in-Points
child-requires-in-Points c = laws.step-child _ _ _ _ _ _ _ c.requires.0 c.requires.1 c.requires.2 _ c.classify_block-here.ensures _ _ c.in-Points.is
    _ c.resolve_target-there.ensures _ c.in-Some.is

pub returns-in-Kept : goal.returns-in-Kept
returns-in-Kept c = laws.step_kept _ _ _ _ _ _ _ c.requires.0 c.requires.1 c.requires.2 _ c.classify_block-here.ensures _ _ c.in-Kept.is _ c.child.ensures

pub returns-in-Some : goal.returns-in-Some
returns-in-Some c = laws.step-target _ _ _ _ _ _ _ c.requires.0 c.requires.1 c.requires.2 _ c.classify_block-here.ensures _ _ c.in-Points.is
    _ c.resolve_target-there.ensures _ c.in-Some.is _ c.child-in-Points.ensures

pub returns-in-Off : goal.returns-in-Off
returns-in-Off c = laws.step-off _ _ _ _ _ _ _ c.requires.0 c.requires.1 c.requires.2 _ c.classify_block-here.ensures c.in-Off.is
