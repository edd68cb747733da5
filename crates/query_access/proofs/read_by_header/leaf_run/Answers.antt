use mathlib.Core.Path.{refl}
use Rattle.query_access.proofs.LeafRunLaws as laws
use Rattle.query_access.proofs.read_by_header.leaf_run.Goals as goal

pub walk-word-requires : goal.walk-word-requires
walk-word-requires c = laws.walk-ready _ _ c.requires.0 _ c.requires.1 _ c.top_level.ensures

pub returns : goal.returns
returns c = laws.leaf-run-reached _ _ _ c.requires.0 c.requires.1 _ c.in_ok-end.ensures _ refl _ _ c.min-here.ensures c.min.ensures
