use Rattle.walk_path.proofs.WalkLaws as laws
use Rattle.walk_path.proofs.packed.Goals as goal

pub returns : goal.returns
returns c = laws.packed-word _ _ _ _ c.requires.0 c.requires.1 c.requires.2 c.requires.3
