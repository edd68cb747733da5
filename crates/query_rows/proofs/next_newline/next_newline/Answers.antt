use native.Mathlib.Omega.{arith}
use Rattle.query_access.specs.ReadByRuns.{ReadsOn, LeafRangeAt}
use Rattle.query_access.proofs.LeafRunLaws.{range-refused}
use Rattle.query_rows.proofs.NewlineLaws as laws
use Rattle.query_rows.proofs.next_newline.next_newline.Goals as goal

pub loop-at-init : goal.loop-at-init
loop-at-init c = (laws.none-at-start _ _ (omega (arith, c.requires.1, c.requires.0.length_is)), laws.first-none _ _ _ (c.no_run-first.ensures.length_value, c.no_run-first.ensures.from_value))

pub leaf_range-found-requires : goal.leaf_range-found-requires
leaf_range-found-requires c = (c.requires.0, c.loop-at-test.true, omega arith)

-- A path breaks.
pub returns-in_default : goal.returns-in_default
returns-in_default c = laws.run-breaks _ _ _ _ c.loop-at.invariant.0 _ c.requires.0 c.loop-at-test.true
    (range-refused _ _ _ _ c.leaf_range-found.ensures c.in_default.is)

pub find_nth-i-requires : goal.find_nth-i-requires
find_nth-i-requires c =
    let there : (ReadsOn c.args.t.now.now c.loop-at.at
    c.in-Some.part.from c.in-Some.part.length)
    × (LeafRangeAt c.args.t.now.now c.loop-at.at 32 c.in-Some.part) = laws.range-there _ _ c.requires.0 _ _ _ c.leaf_range-found.ensures _ c.in-Some.is in
    let z = there in (omega (arith, z.0.in_tree), omega arith)

pub byte_before-before-requires : goal.byte_before-before-requires
byte_before-before-requires c =
    let there : (ReadsOn c.args.t.now.now c.loop-at.at
    c.in-Some.part.from c.in-Some.part.length)
    × (LeafRangeAt c.args.t.now.now c.loop-at.at 32 c.in-Some.part) = laws.range-there _ _ c.requires.0 _ _ _ c.leaf_range-found.ensures _ c.in-Some.is in
    let z = there in omega (arith, z.0.in_tree, c.find_nth-i.ensures.high)

pub overflow_add-result : goal.overflow_add-result
overflow_add-result c =
    let there : (ReadsOn c.args.t.now.now c.loop-at.at
    c.in-Some.part.from c.in-Some.part.length)
    × (LeafRangeAt c.args.t.now.now c.loop-at.at 32 c.in-Some.part) = laws.range-there _ _ c.requires.0 _ _ _ c.leaf_range-found.ensures _ c.in-Some.is in
    let z = there in
    omega (arith, z.0.in_text, c.find_nth-i.ensures.high, laws.text-small _ _ c.requires.0)

-- The newline is in this range.
pub returns-then-i-size : goal.returns-then-i-size
returns-then-i-size c =
    let there : (ReadsOn c.args.t.now.now c.loop-at.at
    c.in-Some.part.from c.in-Some.part.length)
    × (LeafRangeAt c.args.t.now.now c.loop-at.at 32 c.in-Some.part) = laws.range-there _ _ c.requires.0 _ _ _ c.leaf_range-found.ensures _ c.in-Some.is in
    let z = there in
    laws.newline-in-run _ _ _ _ c.loop-at.invariant.0 _ _ z.0 _ c.find_nth-i.ensures _ c.byte_before-before.ensures c.if-i-size.true
    _ (laws.first-kept _ _ _ _ _ _ _ c.loop-at.invariant.1 z.1 c.first_of-first.ensures).0

-- It is not.
pub overflow_add-at : goal.overflow_add-at
overflow_add-at c =
    let there : (ReadsOn c.args.t.now.now c.loop-at.at
    c.in-Some.part.from c.in-Some.part.length)
    × (LeafRangeAt c.args.t.now.now c.loop-at.at 32 c.in-Some.part) = laws.range-there _ _ c.requires.0 _ _ _ c.leaf_range-found.ensures _ c.in-Some.is in
    let z = there in
    omega (arith, z.0.in_text, laws.text-small _ _ c.requires.0)

pub loop-at-smaller : goal.loop-at-smaller
loop-at-smaller c =
    let there : (ReadsOn c.args.t.now.now c.loop-at.at
    c.in-Some.part.from c.in-Some.part.length)
    × (LeafRangeAt c.args.t.now.now c.loop-at.at 32 c.in-Some.part) = laws.range-there _ _ c.requires.0 _ _ _ c.leaf_range-found.ensures _ c.in-Some.is in
    let z = there in omega (arith, z.0.in_text, z.1.some_byte)

pub loop-at-preserved : goal.loop-at-preserved
loop-at-preserved c =
    let there : (ReadsOn c.args.t.now.now c.loop-at.at
    c.in-Some.part.from c.in-Some.part.length)
    × (LeafRangeAt c.args.t.now.now c.loop-at.at 32 c.in-Some.part) = laws.range-there _ _ c.requires.0 _ _ _ c.leaf_range-found.ensures _ c.in-Some.is in
    let z = there in (
      laws.run-passed _ _ _ _ c.loop-at.invariant.0 _ _ z.0 _ c.find_nth-i.ensures _ c.byte_before-before.ensures c.if-i-size.false,
      laws.row-first-some _ _ _ _ (laws.first-kept _ _ _ _ _ _ _ c.loop-at.invariant.1 z.1 c.first_of-first.ensures),
    )

-- The text ends first.
pub returns : goal.returns
returns c = laws.text-ends _ _ _ _ c.loop-at.invariant.0 (omega (arith, c.requires.0.length_is, c.loop-at-test.false))
