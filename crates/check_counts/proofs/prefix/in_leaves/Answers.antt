use native.Mathlib.Omega.{arith}
use Rattle.layout.proofs.ShapeLaws.{shapes}
use Rattle.check_counts.proofs.PrefixLaws as laws
use Rattle.check_counts.proofs.CountsHeader as facts
use Rattle.check_counts.proofs.prefix.in_leaves.Goals as goal

pub shape_of-shape-requires : goal.shape_of-shape-requires
shape_of-shape-requires c = c.requires.0.tree.facts.long

pub link-link-requires : goal.link-link-requires
link-link-requires c = facts.plain-there _ _ _ _ _ c.requires.0 2 (omega arith)

pub bounds-t-c : goal.bounds-t-c
bounds-t-c c = omega (arith, c.requires.0.tree.facts.long, c.requires.0.tree.facts.bounds.counted_high, c.requires.0.number_in)

pub leaf_count-requires : goal.leaf_count-requires
leaf_count-requires c = (
  laws.leaves-fit _ _ _ _ _ _ _ c.requires.0 c.requires.1 c.requires.2
      c.link-link.ensures _ (shapes _ _ c.shape_of-shape.ensures).offset_is,
  laws.leaves-few _ _ _ _ _ _ _ c.requires.0 c.requires.1 c.requires.2 c.link-link.ensures,
)

pub returns : goal.returns
returns c = (
  laws.leaves_are _ _ _ _ _ _ _ c.requires.0 c.requires.1 c.requires.2 c.link-link.ensures
      _ (shapes _ _ c.shape_of-shape.ensures).offset_is _ c.leaf_count.ensures.0,
  c.leaf_count.ensures.1,
)
