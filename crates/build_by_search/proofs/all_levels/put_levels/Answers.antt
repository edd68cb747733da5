use native.Mathlib.Omega.{arith}
use Rattle.build_by_search.proofs.AllLevelsLaws as laws
use Rattle.build_records.proofs.WritesOnlyTreeLaws.{only-tree-trans}
use Rattle.build_by_search.proofs.all_levels.put_levels.Goals as goal

pub loop-preserved : goal.loop-preserved
loop-preserved c =
    let r = c.loop.invariant.reached in
    let g = laws.only-tree-here _ _ _ _ _ _ r _ (only-tree-trans _ _ _ _ c.fill_level-count.ensures.0 c.go_down-step.ensures.writes_only_tree) in
    let s = laws.step-here _ _ _ _ _ _ r _ _ _ c.go_down-step.ensures.step_is in record {
      reached = laws.step-reached _ _ _ _ _ g _ _ s _ c.in-Some.is;
      number_is = omega (arith, laws.step-number _ _ _ _ _ g _ _ s _ c.in-Some.is);
    }
