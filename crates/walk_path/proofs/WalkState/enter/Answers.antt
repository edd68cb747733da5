use Rattle.walk_path.proofs.WalkLaws as laws
use Rattle.walk_path.proofs.WalkState.enter.Goals as goal

pub returns : goal.returns
returns c = laws.onward-is _ _ _ c.min.ensures
