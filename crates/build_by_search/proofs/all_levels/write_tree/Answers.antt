use Rattle.build_by_search.proofs.AllLevelsLaws as laws
use Rattle.build_by_search.proofs.all_levels.write_tree.Goals as goal

pub begin-step-requires : goal.begin-step-requires
begin-step-requires c = c.requires

pub shape_of-out-in_default : goal.shape_of-out-in_default
shape_of-out-in_default c = c.begin-step.ensures.writes_only_tree.same_length

pub returns-in_default : goal.returns-in_default
returns-in_default c = record { writes_only_tree = c.begin-step.ensures.writes_only_tree; tree_complete = laws.step-full _ _ _ _ _ c.begin-step.ensures.writes_only_tree _ _ c.begin-step.ensures.step_is c.in_default.is }

pub put_levels-requires : goal.put_levels-requires
put_levels-requires c = laws.ready-here
    _ _ _ _ _ _ (laws.step-reached _ _ _ _ _ c.begin-step.ensures.writes_only_tree _ _ c.begin-step.ensures.step_is _ c.in-Some.is)

pub shape_of-out : goal.shape_of-out
shape_of-out c = (laws.only-tree-here _ _ _ _ _ _ (laws.step-reached _ _ _ _ _ c.begin-step.ensures.writes_only_tree _ _ c.begin-step.ensures.step_is _ c.in-Some.is)
    _ c.put_levels.ensures.writes_only_tree).same_length

pub returns : goal.returns
returns c = record {
  writes_only_tree = laws.only-tree-here _ _ _ _ _ _
      (laws.step-reached _ _ _ _ _ c.begin-step.ensures.writes_only_tree _ _ c.begin-step.ensures.step_is _ c.in-Some.is)
      _ c.put_levels.ensures.writes_only_tree;
  tree_complete = laws.finished-here _ _ _ _ _ _ (laws.step-reached _ _ _ _ _ c.begin-step.ensures.writes_only_tree
      _ _ c.begin-step.ensures.step_is _ c.in-Some.is) _ _ c.put_levels.ensures.tree_complete;
}
