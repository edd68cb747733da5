use native.Mathlib.Omega.{arith}
use mathlib.Core.Path.{refl}
use Rattle.theory_built.specs.BlockSizes.{bounds}
use Rattle.build_by_search.proofs.AllLevelsLaws as laws
use Rattle.build_records.proofs.WritesOnlyTreeLaws.{only-tree-trans}
use Rattle.build_by_scan.proofs.ScannedLevelsLaws as levels
use Rattle.build_by_scan.proofs.scanned_levels.put_levels.Goals as goal

pub loop-init : goal.loop-init
loop-init c = record { scanned = levels.along-first _ _ _ _ _ refl c.requires.1 c.requires.0; number_is = omega (arith, c.requires.1) }

pub overflow_add-windows : goal.overflow_add-windows
overflow_add-windows c = omega (
  arith,
  levels.windows-fit _ _ _ _ _ _ _ c.loop.invariant.scanned _ c.put_level-put.ensures.windows_value.0 c.put_level-put.ensures.windows_value.1
      (omega (
        arith,
        c.loop.invariant.scanned.reached.ready.level_is.number_in,
        (bounds _ _ c.loop.invariant.scanned.reached.ready.level_is.taken).levels_high,
      )),
)

pub loop-preserved : goal.loop-preserved
loop-preserved c =
    let r = c.loop.invariant.scanned.reached in
    let g = laws.only-tree-here _ _ _ _ _ _ r _ (only-tree-trans _ _ _ _ c.put_level-put.ensures.level_done.0 c.go_down-step.ensures.writes_only_tree) in
    let s = laws.step-here _ _ _ _ _ _ r _ _ _ c.go_down-step.ensures.step_is in
    let n = laws.step-number _ _ _ _ _ g _ _ s _ c.in-Some.is in record {
      scanned = levels.along-next _ _ _ _ _ _ _ c.loop.invariant.scanned
          _ c.put_level-put.ensures.windows_value.0 c.put_level-put.ensures.windows_value.1 _ _ (laws.step-reached _ _ _ _ _ g _ _ s _ c.in-Some.is) n;
      number_is = omega (arith, n);
    }

pub returns-clause-windows_value : goal.returns-clause-windows_value
returns-clause-windows_value c = λ n. levels.windows-all _ _ _ _ _ _ _ c.loop.invariant.scanned
    (omega (arith, c.loop.invariant.number_is, c.loop-test.false, c.loop.invariant.scanned.reached.ready.level_is.number_in))
