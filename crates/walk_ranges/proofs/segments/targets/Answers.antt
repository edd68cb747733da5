use native.Mathlib.Omega.{arith}
use Rattle.walk_steps.proofs.StepLaws.{pointing-there, sum-small}
use Rattle.walk_ranges.proofs.NextSegmentLaws as laws
use Rattle.walk_ranges.proofs.segments.targets.Goals as goal

pub link-link-requires : goal.link-link-requires
link-link-requires c = pointing-there _ _ _ _ _ _ c.requires 2 (omega arith)

pub gap-gap-requires : goal.gap-gap-requires
gap-gap-requires c = pointing-there _ _ _ _ _ _ c.requires 3 (omega arith)

pub overflow_add-result : goal.overflow_add-result
overflow_add-result c = record { fits = omega (arith, sum-small _ _ _ _ _ _ c.requires _ c.gap-gap.ensures) }

pub returns : goal.returns
returns c = laws.targets-are _ _ _ _ _ _ _ c.link-link.ensures c.gap-gap.ensures
