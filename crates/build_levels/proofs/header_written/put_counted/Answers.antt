use Rattle.build_levels.proofs.HeaderWrittenLaws.{places-written}
use Rattle.build_levels.proofs.header_written.put_counted.Goals as goal

pub returns : goal.returns
returns c = rw (c.clear_at.ensures, c.copy.ensures) (places-written c.args.out.now c.args.counted.now c.requires.0)
