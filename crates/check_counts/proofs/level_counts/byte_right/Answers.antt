use mathlib.Core.Path.{sym, ◌∙◌}
use native.Mathlib.Omega.{arith}
use Rattle.check_counts.proofs.CountsHeader as facts
use Rattle.check_counts.proofs.LevelCountsLaws as laws
use Rattle.check_counts.proofs.level_counts.byte_right.Goals as goal

pub block_right-requires : goal.block_right-requires
block_right-requires c = (
  c.requires.0,
  c.requires.1,
  laws.child-length-is _ _ c.requires.2 _ _ c.requires.0,
  record {
    tree = facts.sound _ _ c.requires.2;
    level_in = c.requires.3;
    block_in = omega (arith, c.level_count-n.ensures);
    number_in = c.requires.4;
  },
  c.requires.5,
)

pub returns-then-not-block_right : goal.returns-then-not-block_right
returns-then-not-block_right c = laws.blocks-fail _ _ _ _ c.level_count-n.ensures c.loop-i.i c.loop-i-test.true
    (sym c.block_right.ensures ∙ c.if-not-block_right.true)

pub returns : goal.returns
returns c = laws.blocks-done _ _ _ _ c.level_count-n.ensures _ c.loop-i.invariant (omega arith)
