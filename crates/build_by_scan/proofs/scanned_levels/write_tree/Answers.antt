use mathlib.Core.Path.{refl}
use Rattle.build_by_search.proofs.AllLevelsLaws as laws
use Rattle.build_by_scan.proofs.ScannedLevelsLaws as levels
use Rattle.build_by_scan.proofs.scanned_levels.write_tree.Goals as goal

pub begin-step-requires : goal.begin-step-requires
begin-step-requires c = c.requires.0

pub shape_of-out-in_default : goal.shape_of-out-in_default
shape_of-out-in_default c = c.begin-step.ensures.writes_only_tree.same_length

pub returns-in_default : goal.returns-in_default
returns-in_default c = record { writes_only_tree = c.begin-step.ensures.writes_only_tree; tree_complete = laws.step-full _ _ _ _ _ c.begin-step.ensures.writes_only_tree _ _ c.begin-step.ensures.step_is c.in_default.is; windows_value = λ n. absurd (n refl) }

pub put_levels-requires : goal.put_levels-requires
put_levels-requires c = let r = laws.step-reached _ _ _ _ _ c.begin-step.ensures.writes_only_tree _ _ c.begin-step.ensures.step_is _ c.in-Some.is in (
  laws.ready-here _ _ _ _ _ _ r,
  laws.step-number _ _ _ _ _ c.begin-step.ensures.writes_only_tree
      _ _ c.begin-step.ensures.step_is _ c.in-Some.is,
  levels.room_of
      _ _ _ _ _ _ r _ c.requires.1,
)

pub shape_of-out : goal.shape_of-out
shape_of-out c = (laws.only-tree-here _ _ _ _ _ _ (laws.step-reached _ _ _ _ _ c.begin-step.ensures.writes_only_tree _ _ c.begin-step.ensures.step_is _ c.in-Some.is)
    _ c.put_levels.ensures.writes_only_tree).same_length

pub returns : goal.returns
returns c = let r = laws.step-reached _ _ _ _ _ c.begin-step.ensures.writes_only_tree _ _ c.begin-step.ensures.step_is _ c.in-Some.is in record { writes_only_tree = laws.only-tree-here _ _ _ _ _ _ r _ c.put_levels.ensures.writes_only_tree; tree_complete = laws.finished-here _ _ _ _ _ _ r _ _ c.put_levels.ensures.tree_complete; windows_value = λ n. levels.windows-of _ _ _ _ _ _ r _ (c.put_levels.ensures.windows_value n) }
