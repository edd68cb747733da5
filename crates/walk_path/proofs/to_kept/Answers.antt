use Rattle.walk_path.proofs.WalkLaws as laws
use Rattle.walk_path.proofs.to_kept.Goals as goal

pub enter-further-requires : goal.enter-further-requires
enter-further-requires c = (laws.may-enter _ _ _ _ _ _ _ c.requires.0, c.requires.0.place-in)

pub resolve_target-there-requires : goal.resolve_target-there-requires
resolve_target-there-requires c = laws.may-point _ _ _ _ _ _ _ c.requires.0 _ c.classify_block-here.ensures _ _ c.in-Points.is

pub returns-in_default : goal.returns-in_default
returns-in_default c = laws.landing-none _ _ _ _ _ _ _ c.requires.0 _ c.classify_block-here.ensures _ _ c.in-Points.is _ c.resolve_target-there.ensures
    c.requires.1 c.in_default.is

pub returns-in-Kept : goal.returns-in-Kept
returns-in-Kept c = laws.landing_kept _ _ _ _ _ _ _ c.requires.0 _ c.classify_block-here.ensures _ _ c.in-Kept.is

pub returns-in-Some : goal.returns-in-Some
returns-in-Some c = laws.landing-target _ _ _ _ _ _ _ c.requires.0 _ c.classify_block-here.ensures _ _ c.in-Points.is
    _ c.resolve_target-there.ensures _ c.enter-further.ensures _ c.in-Some.is

pub returns-in-Off : goal.returns-in-Off
returns-in-Off c = laws.landing-off _ _ _ _ _ _ _ c.requires.0 _ c.classify_block-here.ensures c.in-Off.is
