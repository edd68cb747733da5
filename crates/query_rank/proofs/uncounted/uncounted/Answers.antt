use Rattle.query_rank.proofs.UncountedLaws as laws
use Rattle.query_rank.proofs.uncounted.uncounted.Goals as goal

pub returns-in-Ok : goal.returns-in-Ok
returns-in-Ok c = laws.uncounted-good
    _ _ _ c.read_header.ensures _ c.in-Ok.is _ c.past_or_uncounted.ensures

pub returns-in-Err : goal.returns-in-Err
returns-in-Err c = laws.uncounted-unread _ _ _ c.read_header.ensures _ c.in-Err.is
