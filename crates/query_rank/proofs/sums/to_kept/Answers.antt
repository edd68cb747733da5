use Rattle.walk_path.proofs.WalkLaws as walk
use Rattle.query_rank.proofs.SumsLaws as laws
use Rattle.query_rank.proofs.sums.to_kept.Goals as goal

pub resolve_target-there-requires : goal.resolve_target-there-requires
resolve_target-there-requires c = walk.may-point _ _ _ _ _ _ _ c.requires.0 _ c.classify_block-here.ensures _ _ c.in-Points.is

pub returns-in_default : goal.returns-in_default
returns-in_default c = laws.by-no-target _ _ _ _ _ _ _ c.requires.0 _ c.classify_block-here.ensures _ _ c.in-Points.is
    _ c.resolve_target-there.ensures _ _ c.in_default.is

pub across-requires : goal.across-requires
across-requires c = (
  laws.target-across _ _ _ _ _ _ c.args.sum c.requires.0 _ c.classify_block-here.ensures _ _ c.in-Points.is
      _ c.resolve_target-there.ensures _ c.in-Some.is,
  walk.may-enter _ _ _ _ _ _ _ c.requires.0,
  c.requires.1,
)

pub returns-in-Kept : goal.returns-in-Kept
returns-in-Kept c = laws.by_itself _ _ _ _ _ _ _ c.requires.0 _ c.classify_block-here.ensures _ _ _ _ c.in-Kept.is c.requires.1

pub returns-in-Some : goal.returns-in-Some
returns-in-Some c = laws.by-target _ _ _ _ _ _ _ c.requires.0 _ c.classify_block-here.ensures _ _ c.in-Points.is
    _ c.resolve_target-there.ensures _ c.in-Some.is _ _ _ c.across.ensures.value c.across.ensures.carried

pub returns-in-Off : goal.returns-in-Off
returns-in-Off c = laws.by-none _ _ _ _ _ _ _ c.requires.0 _ c.classify_block-here.ensures _ _ c.in-Off.is
