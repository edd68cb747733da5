use mathlib.Core.Path.{refl}
use Rattle.sha256.specs.Sha256.{rotr}
use Rattle.sha256.proofs.word_functions.rotate.Goals as goal

pub returns : goal.returns
unfolding rotr
returns c = refl
