use Rattle.std.proofs.Common.{◌≡◌, arith}
use Rattle.layout.proofs.HeaderLaws.{apart, meets, end_none, end_more, leaves-meet, level-apart}
use Rattle.layout.proofs.TestLoops.{scan-none, scan-more, scan-fails}
use Rattle.layout.specs.Header.{follows}
use Rattle.layout.proofs.header.tables_meet.Goals as goal

pub loop-l-init : goal.loop-l-init
loop-l-init c = (end_none _, omega arith, scan-none _)

pub returns-then-offset-end : goal.returns-then-offset-end
returns-then-offset-end c = level-apart c.args.t.now c.args.levels (scan-fails (follows c.args.t.now) c.args.levels c.loop-l.l c.loop-l-test.true
    (apart c.args.t.now c.loop-l.l _ _ c.loop-l.invariant.0 c.read-offset.ensures c.if-offset-end.true))

pub loop-l-preserved : goal.loop-l-preserved
loop-l-preserved c = (
  end_more c.args.t.now c.loop-l.l _ _ _ _ c.loop-l.invariant.0 c.read.ensures c.requires.2 c.table_bytes-end.ensures.0,
  omega (arith, c.table_bytes-end.ensures.1, c.loop-l.invariant.1),
  scan-more (follows c.args.t.now) c.loop-l.l c.loop-l.invariant.2
      (meets c.args.t.now c.loop-l.l _ _ c.loop-l.invariant.0 c.read-offset.ensures c.if-offset-end.false),
)

pub returns : goal.returns
returns c = let e : c.loop-l.l ≡ c.args.levels = omega arith in
    leaves-meet c.args.t.now c.args.levels _ _ (rw e at c.loop-l.invariant.0) c.read-2.ensures (rw e at c.loop-l.invariant.2)
