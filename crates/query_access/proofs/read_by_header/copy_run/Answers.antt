use mathlib.Core.Path.{refl}
use native.Mathlib.Omega.{arith}
use Rattle.query_access.proofs.LeafRunLaws as laws
use Rattle.query_access.proofs.read_by_header.copy_run.Goals as goal

pub returns-in_default : goal.returns-in_default
returns-in_default c = (refl, laws.range-refused _ _ _ _ c.leaf_range-found.ensures c.in_default.is, refl)

pub copy_range-requires : goal.copy_range-requires
copy_range-requires c = let r = laws.range-found _ _ _ _ c.leaf_range-found.ensures _ c.in-Some.is in
    (r.in_tree, omega (arith, c.requires.3, r.at_most))

pub shape_of-buffer : goal.shape_of-buffer
shape_of-buffer c = c.copy_range.auto.buffer

pub returns : goal.returns
returns c = let r = laws.range-found _ _ _ _ c.leaf_range-found.ensures _ c.in-Some.is in
    laws.run-copied _ c.args.at.0 _ _ r c.args.to c.args.buffer.now _ _ c.copy_range.ensures.value c.copy_range.ensures.buffer_after
