use mathlib.Core.Path.{refl}
use Rattle.query_access.proofs.LeafRunLaws as laws
use Rattle.query_access.proofs.read_by_header.range_at.Goals as goal

pub returns-in_default : goal.returns-in_default
returns-in_default c = (refl, laws.range-refused _ _ _ _ c.leaf_range-found.ensures c.in_default.is)

pub returns : goal.returns
returns c = laws.found-range _ _ _ _ c.leaf_range-found.ensures c.requires.0.passes _ c.in-Some.is
