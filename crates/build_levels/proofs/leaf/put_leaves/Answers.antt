use native.Mathlib.Omega.{arith}
use Rattle.build_records.proofs.WritesOnlyTreeLaws.{only-tree-trans}
use Rattle.build_levels.proofs.LeafLaws as laws
use Rattle.build_levels.proofs.leaf.put_leaves.Goals as goal

pub overflow_add-to : goal.overflow_add-to
overflow_add-to c = omega (
  arith,
  laws.to-few _ _ _ _ _ _ c.loop-i.invariant.up_to c.loop-i-test.true
      _ _ c.put_leaf-to.ensures.value c.put_leaf-to.ensures.writes_only_tree c.put_leaf-to.ensures.agrees_on,
)

pub loop-i-preserved : goal.loop-i-preserved
loop-i-preserved c = record {
  writes_only_tree = only-tree-trans _ _ _ _ c.loop-i.invariant.writes_only_tree c.put_leaf-to.ensures.writes_only_tree;
  up_to = laws.leaf-bytes-more _ _ _ _ _ _ c.loop-i.invariant.up_to c.loop-i-test.true
      _ _ c.put_leaf-to.ensures.value c.put_leaf-to.ensures.writes_only_tree c.put_leaf-to.ensures.agrees_on;
}

pub returns-clause-agrees_on : goal.returns-clause-agrees_on
returns-clause-agrees_on c = laws.leaf-bytes-all _ _ _ _ _ _ c.loop-i.invariant.up_to (omega arith)
