use native.Mathlib.Omega.{arith}
use Rattle.walk_steps.proofs.StepLaws.{pointing-there, sum-small, b-small}
use Rattle.walk_short.proofs.GatherLaws as laws
use Rattle.walk_short.proofs.gather.pointed.Goals as goal

pub link-link-requires : goal.link-link-requires
link-link-requires c = pointing-there _ _ _ _ _ _ c.requires.0 2 (omega arith)

pub gap-gap-requires : goal.gap-gap-requires
gap-gap-requires c = pointing-there _ _ _ _ _ _ c.requires.0 3 (omega arith)

pub overflow_add-sum : goal.overflow_add-sum
overflow_add-sum c = omega (arith, sum-small _ _ _ _ _ _ c.requires.0 _ c.gap-gap.ensures)

pub splits-requires : goal.splits-requires
splits-requires c = (b-small _ _ _ _ c.requires.0.on, omega (arith, c.requires.1, b-small _ _ _ _ c.requires.0.on))

pub returns-then-splits : goal.returns-then-splits
returns-then-splits c = let z = laws.split _ _ _ _ c.splits.ensures
    c.if-splits.true in laws.pointed-over _ _ _ _ _ _ _ _ c.requires.0 c.requires.1 c.requires.2 _ _ c.link-link.ensures c.gap-gap.ensures z.0 z.1

pub target-next-requires : goal.target-next-requires
target-next-requires c = c.requires.0

pub into-requires : goal.into-requires
into-requires c = (
  c.requires.0.on.facts,
  c.requires.0.on.size_is,
  c.requires.0.on.level_in,
  laws.target_in _ _ _ _ _ _ _ _ c.requires.0
      c.requires.1 c.requires.2 _ _ c.link-link.ensures c.gap-gap.ensures (laws.gap_low _ _ _ _ _ _ c.requires.0 _ c.gap-gap.ensures)
      (laws.not-split _ _ _ _ c.splits.ensures c.if-splits.false)
      _ c.target-next.ensures _ _ c.in-Kept.is,
  rw c.requires.2 (laws.child-pos _ _ _ _ c.requires.0.on),
)

pub returns-in-Kept : goal.returns-in-Kept
returns-in-Kept c = laws.pointed-in _ _ _ _ _ _ _ _ c.requires.0 c.requires.1
    c.requires.2 _ _ c.link-link.ensures c.gap-gap.ensures (laws.gap_low _ _ _ _ _ _ c.requires.0 _ c.gap-gap.ensures) (laws.not-split _ _ _ _
    c.splits.ensures c.if-splits.false)
    _ c.target-next.ensures _ _ c.in-Kept.is _ c.into.ensures

pub returns-in-Points : goal.returns-in-Points
returns-in-Points c = laws.pointed-twice _ _ _ _ _ _ _ _ c.requires.0 c.requires.1 c.requires.2 _ _ c.link-link.ensures c.gap-gap.ensures
    (laws.gap_low _ _ _ _ _ _ c.requires.0 _ c.gap-gap.ensures) (laws.not-split _ _ _ _ c.splits.ensures
    c.if-splits.false) _ c.target-next.ensures _ _ c.in-Points.is

pub returns-in-Off : goal.returns-in-Off
returns-in-Off c = laws.pointed-off _ _ _ _ _ _ _ _ c.requires.0 c.requires.1 c.requires.2 _ _ c.link-link.ensures c.gap-gap.ensures
    (laws.gap_low _ _ _ _ _ _ c.requires.0 _ c.gap-gap.ensures) (laws.not-split _ _ _ _ c.splits.ensures
    c.if-splits.false) _ c.target-next.ensures c.in-Off.is
