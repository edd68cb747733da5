use Rattle.std.proofs.Common.{◌≡◌, ◌+◌, ◌*◌, ◌<◌, ◌++◌, [], ◌∷◌, ◌∙◌, sym, length, drop, length-drop, below_more, arith}
use Rattle.std.proofs.lemmas.Grind.{common_steps}
use Rattle.keys.proofs.RangesLaws.{range-odd, range_none, range-many, range-bad, range-good, range-is, ranges_left, range-within}
use Rattle.keys.proofs.ranges.are_ranges.Goals as goal

pub returns-then-ranges-ne0 : goal.returns-then-ranges-ne0
returns-then-ranges-ne0 c = range-odd _ c.if-ranges-ne0.true

pub returns-then-cuts-lt1 : goal.returns-then-cuts-lt1
returns-then-cuts-lt1 c = range_none _ c.if-ranges-ne0.false c.if-cuts-lt1.true

pub returns-then-cuts-gt-MAX_CUTS : goal.returns-then-cuts-gt-MAX_CUTS
returns-then-cuts-gt-MAX_CUTS c = range-many _ c.if-ranges-ne0.false c.if-cuts-lt1.false c.if-cuts-gt-MAX_CUTS.true

pub returns-then-not-in_order : goal.returns-then-not-in_order
returns-then-not-in_order c =
    let s = c.in-Some.ensures.steps in
    let is = sym c.loop-range.invariant.rest ∙ s.1.0 in
    let two = s.1.1 ∙ c.loop-range.invariant.size in
    let within = range-within c.args.ranges.now _ _ (length c.loop-range.yielded) is two c.loop-range.invariant.passed in
    range-bad _ c.if-ranges-ne0.false c.if-cuts-lt1.false c.if-cuts-gt-MAX_CUTS.false (length c.loop-range.yielded) (omega arith)
    (range-is c.args.ranges.now _ _ (length c.loop-range.yielded) is two _ _ c.in_order.ensures c.if-not-in_order.true)

pub loop-range-preserved : goal.loop-range-preserved
loop-range-preserved c =
    let s = c.in-Some.ensures.steps in
    let is = sym c.loop-range.invariant.rest ∙ s.1.0 in
    let two = s.1.1 ∙ c.loop-range.invariant.size in
    let more : length (c.loop-range.yielded ++ (c.in-Some.range ∷ [])) ≡ length c.loop-range.yielded + 1 = grind (arith, common_steps) in
    rw more (record {
      size = s.0 ∙ c.loop-range.invariant.size;
      rest = ranges_left c.args.ranges.now _ _ (length c.loop-range.yielded) is two;
      passed = range-within c.args.ranges.now _ _ (length c.loop-range.yielded) is two c.loop-range.invariant.passed;
      right = below_more _ _ c.loop-range.invariant.right (range-is c.args.ranges.now _ _ (length c.loop-range.yielded) is two _ _ c.in_order.ensures c.if-not-in_order.false);
    })

pub returns : goal.returns
returns c =
    let few : length (drop (2 * length c.loop-range.yielded) c.args.ranges.now) < 2 =
    rw (← c.loop-range.invariant.rest) (omega (arith, c.in-None.ensures.steps.1.0, c.loop-range.invariant.size)) in
    range-good _ c.if-ranges-ne0.false c.if-cuts-lt1.false c.if-cuts-gt-MAX_CUTS.false
    (λ k h. c.loop-range.invariant.right k (omega (arith, few, length-drop (2 * length c.loop-range.yielded) c.args.ranges.now)))
