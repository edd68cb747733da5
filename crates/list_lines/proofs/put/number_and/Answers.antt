use Rattle.list_lines.proofs.PutLaws.{figure-put}
use Rattle.list_lines.proofs.put.number_and.Goals as goal

pub returns : goal.returns
returns c = figure-put _ _ c.requires c.number-end.ensures
