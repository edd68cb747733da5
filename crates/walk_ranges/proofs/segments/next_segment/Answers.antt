use mathlib.Core.Path.{refl}
use Rattle.walk_steps.proofs.StepLaws.{b-pos}
use Rattle.walk_steps.proofs.NextLaws.{next-kept, next-points, next-off}
use Rattle.walk_ranges.proofs.NextSegmentLaws as laws
use Rattle.walk_ranges.proofs.segments.next_segment.Goals as goal

pub div_rem-at-requires : goal.div_rem-at-requires
div_rem-at-requires c = b-pos _ _ _ _ (laws.segment-level _ _ _ _ _ _ _ c.requires.0 c.requires.1)

pub classify_next-next-requires : goal.classify_next-next-requires
classify_next-next-requires c = laws.segment-level _ _ _ _ _ _ _ c.requires.0 c.requires.1

pub below-requires : goal.below-requires
below-requires c = let z = next-kept _ _ _ _ _ c.classify_next-next.ensures _ _ c.in-Kept.is in
    let y = laws.place-there _ _ _ _ _ _ _ c.requires.0 c.requires.1 _ c.div_rem-at.ensures _ z.2 in
    (laws.segment-level _ _ _ _ _ _ _ c.requires.0 c.requires.1, rw z.1 z.0, y.0, c.requires.2, y.1)

pub across-requires : goal.across-requires
across-requires c = let z = next-points _ _ _ _ _ c.classify_next-next.ensures _ _ c.in-Points.is in
    let y = laws.place-there _ _ _ _ _ _ _ c.requires.0 c.requires.1 _ c.div_rem-at.ensures _ z.3 in
    (record { on = laws.segment-level _ _ _ _ _ _ _ c.requires.0 c.requires.1; place-in = y.0; points = rw z.2 z.1 }, c.requires.2)

pub returns-in-Kept : goal.returns-in-Kept
returns-in-Kept c = let z = next-kept _ _ _ _ _ c.classify_next-next.ensures _ _ c.in-Kept.is in
    laws.segment-next _ _ _ _ _ _ _ c.requires.0 c.requires.1 _ c.div_rem-at.ensures _ z.2 _ _ z.1 c.below.result c.below.ensures

pub returns-in-Points : goal.returns-in-Points
returns-in-Points c = let z = next-points _ _ _ _ _ c.classify_next-next.ensures _ _ c.in-Points.is in
    laws.segment-next _ _ _ _ _ _ _ c.requires.0 c.requires.1 _ c.div_rem-at.ensures _ z.3 _ _ z.2 c.across.result c.across.ensures

pub returns-in-Off : goal.returns-in-Off
returns-in-Off c = let z = next-off _ _ _ _ _ c.classify_next-next.ensures c.in-Off.is in
    laws.segment-off _ _ _ _ _ _ _ c.requires.0 c.requires.1 _ c.div_rem-at.ensures _ refl _ z.0 z.1
