use mathlib.Core.List.{List}
use Prim.Native.Nat.{ℕ}
use native.Mathlib.Omega.{arith}
use Rattle.walk_steps.proofs.NextLaws.{level-below}
use Rattle.walk_group.proofs.GroupLaws as laws
use Rattle.walk_group.proofs.walk_all.Goals as goal

pub step_all-requires : goal.step_all-requires
step_all-requires c = (
  c.loop-level.invariant.0,
  rw c.requires.0.arity_is (level-below _ _ _ _ c.loop-level.invariant.0 (λ e. omega (arith, c.requires.0.levels_is, c.loop-level-test.true))),
  omega (arith, c.requires.1, c.loop-level.invariant.1.same_blocks),
  omega (arith, c.requires.2, c.loop-level.invariant.1.same_places),
  laws.levels-here _ _ _ _ _ _ _ c.loop-level.invariant.1,
)

pub returns-then-not-step_all : goal.returns-then-not-step_all
returns-then-not-step_all c =
    let blocks : List ℕ = c.step_all.new.blocks in
    let places : List ℕ = c.step_all.new.places in
    laws.levels-off _ _ _ _ _ _ _ c.loop-level.invariant.1 blocks places c.step_all.result c.step_all.ensures c.if-not-step_all.true

pub loop-level-preserved : goal.loop-level-preserved
loop-level-preserved c =
    let blocks : List ℕ = c.step_all.new.blocks in
    let places : List ℕ = c.step_all.new.places in (
      rw c.requires.0.arity_is (level-below _ _ _ _ c.loop-level.invariant.0 (λ e. omega (arith, c.requires.0.levels_is, c.loop-level-test.true))),
      laws.levels-more _ _ _ _ _ _ _ c.loop-level.invariant.1 blocks places c.step_all.result c.step_all.ensures
          c.if-not-step_all.false c.step_all.auto.blocks c.step_all.auto.places,
    )
