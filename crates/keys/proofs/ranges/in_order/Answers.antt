use borrow.Author.Tests.{le-leb, lt-leb}
use Rattle.keys.specs.Keys.{max_depth}
use Rattle.keys.proofs.ranges.in_order.Goals as goal

pub returns-then-low-gt-MAX_DEPTH : goal.returns-then-low-gt-MAX_DEPTH
returns-then-low-gt-MAX_DEPTH c = simp (lt-leb _ max_depth c.if-low-gt-MAX_DEPTH.true)

pub returns-then-high-gt-MAX_DEPTH : goal.returns-then-high-gt-MAX_DEPTH
returns-then-high-gt-MAX_DEPTH c = simp (le-leb _ max_depth c.if-low-gt-MAX_DEPTH.false, lt-leb _ max_depth c.if-high-gt-MAX_DEPTH.true)

pub returns : goal.returns
returns c = simp (le-leb _ max_depth c.if-low-gt-MAX_DEPTH.false, le-leb _ max_depth c.if-high-gt-MAX_DEPTH.false)
