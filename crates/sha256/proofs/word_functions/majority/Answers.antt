use mathlib.Core.Path.{refl}
use Rattle.sha256.specs.Sha256.{maj}
use Rattle.sha256.proofs.word_functions.majority.Goals as goal

pub returns : goal.returns
unfolding maj
returns c = refl
