use Rattle.build_levels.proofs.HeaderWrittenLaws.{pair-written}
use Rattle.build_levels.proofs.header_written.put_pair.Goals as goal

pub returns : goal.returns
returns c = pair-written c.args.out.now _ _ c.args.number _ _ c.write.ensures c.write-2.ensures
