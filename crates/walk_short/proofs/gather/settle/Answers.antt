use Rattle.walk_short.proofs.GatherLaws as laws
use Rattle.walk_short.proofs.gather.settle.Goals as goal

pub into-requires : goal.into-requires
into-requires c = (
  c.requires.0.facts,
  c.requires.0.size_is,
  c.requires.0.level_in,
  laws.kept_there _ _ _ _ _
      0 c.requires.3 _ c.classify_next-next.ensures _ _ c.in-Kept.is,
  rw c.requires.3 (laws.child-pos _ _ _ _ c.requires.0),
)

pub pointed-requires : goal.pointed-requires
pointed-requires c = let z = laws.points-place _ _ _ _ _ 0 c.requires.3 _ c.classify_next-next.ensures _ _ c.in-Points.is in
    (laws.points-there _ _ _ _ _ 0 c.requires.3 _ c.classify_next-next.ensures _ _ c.requires.0 c.requires.1 _ _ c.in-Points.is, rw z c.requires.2, c.requires.3)

pub returns-in-Kept : goal.returns-in-Kept
returns-in-Kept c = laws.step_kept _ _ _ _ _ _ c.requires.3 _ c.classify_next-next.ensures _ _ c.in-Kept.is _ c.into.ensures

pub returns-in-Points : goal.returns-in-Points
returns-in-Points c = laws.step-points _ _ _ _ _ _ c.requires.3 _ c.classify_next-next.ensures _ _ c.in-Points.is _ c.pointed.ensures

pub returns-in-Off : goal.returns-in-Off
returns-in-Off c = laws.step-off _ _ _ _ _ _ c.requires.3 _ c.classify_next-next.ensures c.in-Off.is
