use mathlib.Core.Path.{refl, sym, ◌∙◌}
use Prim.Native.Nat.{◌+◌}
use native.Mathlib.Omega.{arith}
use Rattle.check_edges.proofs.EightLaws as laws
use Rattle.check_edges.proofs.equal.equal_at.Goals as goal
use Rattle.check_edges.proofs.equal.equal_at.Goals.{else-loop-i-test, then-loop-i-test+else-not-medium_equal+else-last-i-gt32}

pub loop-i-init : goal.loop-i-init
loop-i-init c = laws.none_differ _ _ _

pub returns-then-not-medium_equal : goal.returns-then-not-medium_equal
returns-then-not-medium_equal c = laws.part-differs _ _ _ _ c.loop-i.i 32 _ _ refl refl c.requires.0 c.requires.1 (omega (arith, c.loop-i-test.true))
    (sym c.medium_equal-in-loop-i.ensures ∙ c.if-not-medium_equal.true)

pub loop-i-preserved : goal.loop-i-preserved
loop-i-preserved c = laws.more_same _ _ _ _ _ (omega (arith, c.requires.0)) (omega (arith, c.requires.1)) c.loop-i.invariant
    (sym c.medium_equal-in-loop-i.ensures ∙ c.if-not-medium_equal.false)

pub returns : goal.returns
returns c =
    elim c.loop-i-test.branch [
      | else-loop-i-test w ↦ c.medium_equal-2.ensures
          ∙ laws.rest-decides _ _ _ _ _ _ _ _ refl refl c.requires.0 c.requires.1 _ (omega (arith, w.loop-i-test.false)) (omega arith) c.loop-i.invariant
      | then-loop-i-test+else-not-medium_equal+else-last-i-gt32 w ↦ c.medium_equal-2.ensures
          ∙ laws.rest-decides _ _ _ _ _ _ _ _ refl refl c.requires.0 c.requires.1 (c.loop-i.i + 32) (omega arith) (omega arith)
          (laws.more_same _ _ _ _ _ (omega (arith, c.requires.0)) (omega (arith, c.requires.1)) c.loop-i.invariant
          (sym w.medium_equal-in-loop-i.ensures ∙ w.if-not-medium_equal.false))
    ]
