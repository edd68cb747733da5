use native.Mathlib.Omega.{arith}
use Rattle.build_marking.proofs.TargetLaws as laws
use Rattle.build_records.proofs.StateLaws.{record-few}
use Rattle.build_marking.proofs.target.pointing_block.Goals as goal

pub substring_of-own-requires : goal.substring_of-own-requires
substring_of-own-requires c = c.requires.block_next

pub holder-target-requires : goal.holder-target-requires
holder-target-requires c = record { sorted = laws.sorted _ _ _ _ _ c.requires.block_next; between = laws.whole_range _ _ _ _ _ c.requires.block_next c.requires.i_value _ c.requires.place_value }

pub start-from-requires : goal.start-from-requires
start-from-requires c = let f = record-few _ _ _ c.requires.block_next.level_is in (
  f.counted_few,
  f.table_few,
  omega (arith, c.holder-target.ensures.within, f.count_few),
  f.leaf_few,
  laws.target_fits _ _ _ _ _ c.requires.block_next c.requires.i_value _ c.requires.place_value _ c.holder-target.ensures,
)

pub parent-requires : goal.parent-requires
parent-requires c = c.requires.block_next.level_is.above_low

pub overflow_sub-result : goal.overflow_sub-result
overflow_sub-result c = laws.from_le _ _ _ _ _ c.requires.block_next
    c.requires.i_value _ c.requires.place_value _ c.holder-target.ensures _ c.start-from.ensures

pub returns : goal.returns
returns c = laws.pointing-is _ _ _ _ _ c.requires.block_next
    c.requires.i_value _ c.requires.place_value _ c.holder-target.ensures _ c.start-from.ensures
    _ c.substring_of-own.ensures _ c.parent.ensures
