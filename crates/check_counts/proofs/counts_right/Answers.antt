use mathlib.Core.Path.{refl, sym, ◌∙◌}
use native.Mathlib.Omega.{arith}
use Rattle.check_counts.proofs.CountsHeader as facts
use Rattle.check_counts.proofs.LevelCountsLaws as laws
use Rattle.check_counts.proofs.counts_right.Goals as goal

pub loop-level-init : goal.loop-level-init
loop-level-init c = record {
  length_is = laws.last-length _ _ c.requires _ refl;
  checked = λ m l hm. absurd (let z : ⊥ = omega (arith, facts.levels_is _ _ c.requires) in z);
}

pub level_right-requires : goal.level_right-requires
level_right-requires c = (
  c.loop-level.invariant.length_is c.loop-level-test.true,
  c.requires,
  laws.level_low _ _ c.requires _ c.loop-level-test.true c.loop-level.auto.level c.loop-level.invariant.checked,
  laws.below_left _ _ c.requires _ c.loop-level-test.true c.loop-level.auto.level c.loop-level.invariant.checked,
)

pub returns-then-not-level_right : goal.returns-then-not-level_right
returns-then-not-level_right c = laws.level-fail _ _ c.requires _ c.loop-level-test.true c.loop-level.auto.level c.loop-level.invariant.checked
    (sym c.level_right.ensures ∙ c.if-not-level_right.true)

pub overflow_mul-b : goal.overflow_mul-b
overflow_mul-b c = omega (arith, laws.up_small _ _ c.requires _ _ (c.loop-level.invariant.length_is c.loop-level-test.true))

pub loop-level-preserved : goal.loop-level-preserved
loop-level-preserved c = record {
  length_is = laws.above-length _ _ c.requires _ _ c.loop-level.auto.level c.loop-level-test.true (c.loop-level.invariant.length_is c.loop-level-test.true);
  checked = laws.level-done _ _ c.requires _ c.loop-level-test.true c.loop-level.auto.level c.loop-level.invariant.checked
      (sym c.level_right.ensures ∙ c.if-not-level_right.false);
}

pub returns : goal.returns
returns c = laws.levels-done _ _ c.requires _ c.loop-level-test.false c.loop-level.invariant.checked
