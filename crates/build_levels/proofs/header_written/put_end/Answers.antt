use Rattle.build_levels.proofs.HeaderWrittenLaws.{end-written}
use Rattle.build_levels.proofs.header_written.put_end.Goals as goal

pub returns : goal.returns
returns c = end-written
    c.args.out.now _ _ _ c.args.levels c.args.offset c.args.count c.put_unused.ensures c.write.ensures c.write-2.ensures
