use native.Mathlib.Omega.{arith}
use Rattle.build_by_search.proofs.LevelFillLaws as laws
use Rattle.build_by_scan.proofs.scanned_fill.fill_scanned.Goals as goal

pub loop-i-init : goal.loop-i-init
loop-i-init c = laws.going-first _ _ _ c.requires.0.level_is _ c.requires.0.filled

pub block_in-block-requires : goal.block_in-block-requires
block_in-block-requires c = (
  laws.going_next _ _ _ c.requires.0.level_is
      _ _ _ _ _ c.loop-i.invariant c.loop-i-test.true _ c.pair_in-right.ensures _ c.keeps-kept.ensures,
  c.requires.1,
)

pub overflow_add-link : goal.overflow_add-link
overflow_add-link c = omega (
  arith,
  laws.link-few _ _ _ c.requires.0.level_is _ _ _ _ _ c.loop-i.invariant c.loop-i-test.true _ c.pair_in-right.ensures _ c.keeps-kept.ensures
      _ _ c.put_block-link.ensures.value c.put_block-link.ensures.writes_only_tree c.put_block-link.ensures.agrees_on,
)

pub loop-i-preserved : goal.loop-i-preserved
loop-i-preserved c = laws.going_more _ _ _ c.requires.0.level_is _ _ _ _ _ c.loop-i.invariant
    c.loop-i-test.true _ c.pair_in-right.ensures _ c.keeps-kept.ensures
    _ _ c.put_block-link.ensures.value c.put_block-link.ensures.writes_only_tree c.put_block-link.ensures.agrees_on

pub returns : goal.returns
returns c = (c.loop-i.invariant.only_tree, laws.all-written _ _ _ c.requires.0.level_is _ _ _ _ _ c.loop-i.invariant (omega arith) c.requires.0.header)
