use mathlib.Core.Path.{refl}
use native.Mathlib.Omega.{arith}
use Rattle.walk_ranges.proofs.LeafEndLaws.{end-left-small}
use Rattle.query_access.proofs.LeafRunLaws as laws
use Rattle.query_access.proofs.read_by_header.leaf_range.Goals as goal

pub walk-word-requires : goal.walk-word-requires
walk-word-requires c = laws.walk-ready _ _ c.requires.0 _ c.requires.1 _ c.top_level.ensures

pub joined-joined-requires : goal.joined-joined-requires
joined-joined-requires c = let e = c.in_ok-end.ensures in
    (c.requires.0, e.ends_in, omega (arith, c.min-within.ensures, end-left-small _ _ _ c.requires.0 _ e))

pub returns : goal.returns
returns c = laws.leaf-range-reached _ _ _ c.requires.0 c.requires.1 _ c.in_ok-end.ensures _ refl _ _ _ _ _ c.requires.2 c.min-within.ensures
    c.joined-joined.ensures c.min-size.ensures c.min.ensures
