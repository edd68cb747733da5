use native.Mathlib.Omega.{arith}
use Rattle.walk_steps.proofs.StepLaws.{field-there, kept_in}
use Rattle.walk_ranges.proofs.NextSegmentLaws as laws
use Rattle.walk_ranges.proofs.segments.children.Goals as goal

pub link-link-requires : goal.link-link-requires
link-link-requires c = field-there _ _ _ _ _ 2 c.requires.0 (kept_in _ _ _ c.requires.1) (omega arith)

pub width-step-requires : goal.width-step-requires
width-step-requires c = (c.requires.0.facts, c.requires.0.b_is, c.requires.0.level_in)

pub overflow_add-result : goal.overflow_add-result
overflow_add-result c = record { fits = omega (arith, c.requires.0.level_in, c.requires.0.facts.bounds.levels_high) }

pub quotient-requires : goal.quotient-requires
quotient-requires c = omega (arith, c.width-step.ensures, (laws.width-in _ _ c.requires.0.facts c.requires.0.level_in).0)

pub returns : goal.returns
returns c = laws.children-are _ _ _ _ _ _ _ _ _ c.link-link.ensures c.width-step.ensures c.quotient.ensures
