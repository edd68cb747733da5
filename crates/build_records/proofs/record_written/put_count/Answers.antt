use Rattle.build_records.proofs.RecordWrittenLaws.{count-written}
use Rattle.build_records.proofs.record_written.put_count.Goals as goal

pub returns : goal.returns
returns c = count-written
    _ _ _ _ _ _ _ _ c.count_in-inside.ensures.0 c.count_in-skip.ensures.0 c.put_three.ensures
