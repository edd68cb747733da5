use native.Mathlib.Omega.{arith}
use Rattle.build_records.proofs.RecordsRead.{start_fits, substring-is}
use Rattle.build_records.proofs.StateLaws.{record-few}
use Rattle.build_records.proofs.level_written.substring_of.Goals as goal

pub start-start-requires : goal.start-start-requires
start-start-requires c = let f = record-few _ _ _ c.requires.level_is in
    (f.counted_few, f.table_few, omega (arith, c.requires.block_in, f.count_few), f.leaf_few, start_fits _ _ _ _ _ c.requires _ c.requires.block_in)

pub overflow_cast-text : goal.overflow_cast-text
overflow_cast-text c = omega (arith, (record-few _ _ _ c.requires.level_is).text_few)

pub returns : goal.returns
returns c = substring-is _ _ _ _ _ c.requires _ c.start-start.ensures _ c.length_from.ensures.0
