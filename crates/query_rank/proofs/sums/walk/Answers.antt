use native.Mathlib.Omega.{arith}
use Rattle.walk_steps.proofs.NextLaws.{on-top}
use Rattle.walk_steps.proofs.StepLaws.{b-pos}
use Rattle.walk_path.proofs.WalkLaws as walk
use Rattle.query_rank.proofs.SumsLaws as laws
use Rattle.query_rank.proofs.sums.walk.Goals as goal

pub top_position-position-requires : goal.top_position-position-requires
top_position-position-requires c = b-pos _ _ _ _ (on-top _ _ c.requires.0)

pub start-sum-requires : goal.start-sum-requires
start-sum-requires c = (
  c.requires.0,
  (walk.top-may
      _ _ _ _ (on-top _ _ c.requires.0) _ c.top_position-position.ensures (omega (arith, c.requires.0.length_is, c.requires.1))).block_in,
  c.requires.2,
)

pub pointing_step-requires : goal.pointing_step-requires
pointing_step-requires c = (
  laws.first-may _ _ 0 0 _ _ (on-top _ _ c.requires.0) _ c.top_position-position.ensures
      c.start-sum.result (laws.start-entered _ _ _ _ c.start-sum.ensures.value) (omega (arith, c.requires.0.length_is, c.requires.1)),
  c.start-sum.ensures.carried,
)

pub returns : goal.returns
returns c = laws.first_by _ _ _ _ _ _
    (on-top _ _ c.requires.0) _ c.top_position-position.ensures _ _ c.start-sum.ensures.value c.pointing_step.ensures
