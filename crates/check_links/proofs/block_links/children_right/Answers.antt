use native.Mathlib.Omega.{arith}
use Rattle.layout.proofs.TestLoops.{scan-none, scan-more, scan-fails}
use Rattle.check_links.proofs.BlockLinksLaws as laws
use Rattle.check_links.specs.LevelAsked.{child_as_cut}
use Rattle.check_links.proofs.block_links.children_right.Goals as goal

pub loop-j-init : goal.loop-j-init
loop-j-init c = scan-none _

pub start-child-requires : goal.start-child-requires
start-child-requires c = laws.child-there _ _ c.requires.0 c.requires.1 _ (omega (arith, c.requires.2))

pub returns-then-child-start : goal.returns-then-child-start
returns-then-child-start c = scan-fails (child_as_cut c.args.t.now c.args.v.number c.args.first.0 c.args.start.0) c.args.width c.loop-j.j
    c.loop-j-test.true (laws.child-off _ _ c.requires.0 _ _ _ _ c.requires.1 c.start-child.ensures c.if-child-start.true)

pub loop-j-preserved : goal.loop-j-preserved
loop-j-preserved c = scan-more (child_as_cut c.args.t.now c.args.v.number c.args.first.0 c.args.start.0) c.loop-j.j c.loop-j.invariant
    (laws.child-on _ _ c.requires.0 _ _ _ _ c.requires.1 c.start-child.ensures c.if-child-start.false)
