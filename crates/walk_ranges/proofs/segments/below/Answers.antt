use native.Mathlib.Omega.{arith}
use Rattle.walk_ranges.proofs.NextSegmentLaws as laws
use Rattle.walk_ranges.proofs.segments.below.Goals as goal

pub kept_size-n-requires : goal.kept_size-n-requires
kept_size-n-requires c = (c.requires.0, c.requires.1, c.requires.2, omega (arith, c.requires.4))

pub children-under-requires : goal.children-under-requires
children-under-requires c = (c.requires.0, c.requires.1)

pub returns : goal.returns
returns c = laws.below_next _ c.requires.0.facts _ c.requires.0.level_in _ _ _ _ _ _ _ _ c.requires.0 c.kept_size-n.ensures c.requires.3 c.min.ensures c.requires.4 _
    c.children-under.ensures
