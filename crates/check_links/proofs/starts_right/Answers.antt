use native.Mathlib.Omega.{arith}
use Rattle.layout.proofs.TestLoops.{scan-none, scan-more, scan-fails}
use Rattle.check_links.proofs.BlockLinksLaws as laws
use Rattle.check_links.proofs.TreeLaws as tree
use Rattle.check_links.specs.LevelAsked.{start_as_cut}
use Rattle.check_links.proofs.starts_right.Goals as goal

pub loop-i-init : goal.loop-i-init
loop-i-init c = scan-none _

pub start-start-requires : goal.start-start-requires
start-start-requires c = rw c.requires.1 at (laws.there _ _ c.requires.0 c.loop-i.i 0 c.loop-i-test.true (omega arith))

pub returns-then-start-i : goal.returns-then-start-i
returns-then-start-i c = scan-fails (start_as_cut c.args.t.now) c.args.v.count c.loop-i.i c.loop-i-test.true
    (tree.start-off _ _ c.requires.0 _ _ c.start-start.ensures c.requires.1 c.if-start-i.true)

pub loop-i-preserved : goal.loop-i-preserved
loop-i-preserved c = scan-more (start_as_cut c.args.t.now) c.loop-i.i c.loop-i.invariant
    (tree.start-on _ _ c.requires.0 _ _ c.start-start.ensures c.requires.1 c.if-start-i.false)
