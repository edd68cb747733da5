use native.Mathlib.Omega.{arith}
use mathlib.Core.Path.{◌≡◌}
use Rattle.query_guide.proofs.GuideList as laws
use Rattle.query_guide.proofs.entry_words.entries_before.Goals as goal

pub loop-c-init : goal.loop-c-init
loop-c-init c = (laws.none_before _, omega arith)

pub overflow_add-sum : goal.overflow_add-sum
overflow_add-sum c = omega (arith, c.loop-c.invariant.1, c.entries_of-sum.ensures.1, c.requires.1, c.requires.0.facts.bounds.counted_high)

pub loop-c-preserved : goal.loop-c-preserved
loop-c-preserved c =
    (laws.one_more _ _ _ _ c.loop-c.invariant.0 c.entries_of-sum.ensures.0, omega (arith, c.loop-c.invariant.1, c.entries_of-sum.ensures.1))

pub returns : goal.returns
returns c = let e : c.loop-c.c ≡ c.args.number = omega arith in
    (rw e at c.loop-c.invariant.0, omega (arith, c.loop-c.invariant.1, e, c.requires.1, c.requires.0.facts.bounds.counted_high))
