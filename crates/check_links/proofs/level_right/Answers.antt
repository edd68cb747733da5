use mathlib.Core.Path.{sym, ◌∙◌}
use native.Mathlib.Omega.{arith}
use Rattle.format.specs.TreeReading.{block_right}
use Rattle.layout.proofs.TestLoops.{scan-none, scan-more}
use Rattle.check_links.proofs.TreeLaws as tree
use Rattle.check_links.proofs.level_right.Goals as goal

pub loop-i-init : goal.loop-i-init
loop-i-init c = record { room = omega arith; sum = tree.none_before _; checked = scan-none _ }

pub returns-then-v-passed : goal.returns-then-v-passed
returns-then-v-passed c = tree.room-short _ _ c.requires
    _ _ _ c.loop-i-test.true c.loop-i.invariant.sum c.width-width.ensures c.loop-i.invariant.room c.if-v-passed.true

pub returns-then-not-block_right : goal.returns-then-not-block_right
returns-then-not-block_right c = tree.block-off _ _ c.requires _ _ _ c.loop-i-test.true
    c.loop-i.invariant.sum c.width-width.ensures (sym c.block_right.ensures ∙ c.if-not-block_right.true)

pub loop-i-preserved : goal.loop-i-preserved
loop-i-preserved c = record {
  room = omega (arith, c.loop-i.invariant.room, c.if-v-passed.false);
  sum = tree.before_more _ _ c.requires _ _ _ c.loop-i-test.true c.loop-i.invariant.sum c.width-width.ensures;
  checked = scan-more (block_right c.args.t.now c.args.v.number) c.loop-i.i c.loop-i.invariant.checked
      (sym c.block_right.ensures ∙ c.if-not-block_right.false);
}

pub returns : goal.returns
returns c = tree.level-done _ _ c.requires _ _ c.loop-i.auto.i-end c.loop-i-test.false c.loop-i.invariant.sum c.loop-i.invariant.checked
