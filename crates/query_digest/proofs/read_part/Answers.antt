use Rattle.query_digest.proofs.TextHashedLaws.{part-read, part-broken}
use Rattle.query_digest.proofs.read_part.Goals as goal

pub returns-in-Ok : goal.returns-in-Ok
returns-in-Ok c = part-read c.args.t.now c.args.h c.requires.0 c.args.at c.args.len c.requires.1 c.args.part.now _ c.requires.2 _
    c.copy-copied.ensures.copy_answer c.copy-copied.ensures.buffer_after _ c.in-Ok.is

pub returns-in-Err : goal.returns-in-Err
returns-in-Err c = part-broken c.args.t.now c.args.h c.requires.0 c.args.at c.args.len c.requires.1 c.args.part.now _ c.requires.2 _
    c.copy-copied.ensures.copy_answer c.copy-copied.ensures.buffer_after _ c.in-Err.is
