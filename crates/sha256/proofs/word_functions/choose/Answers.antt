use mathlib.Core.Path.{refl}
use Rattle.sha256.specs.Sha256.{ch}
use Rattle.sha256.proofs.word_functions.choose.Goals as goal

pub returns : goal.returns
unfolding ch
returns c = refl
