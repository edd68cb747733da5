use Rattle.build_records.proofs.LevelWrittenLaws.{record-size-is}
use Rattle.build_records.proofs.level_written.record_size.Goals as goal

pub returns : goal.returns
returns c = record-size-is c.args.s c.args.counted.now c.requires.0 c.requires.1
