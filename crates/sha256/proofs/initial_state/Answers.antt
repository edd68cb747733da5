use mathlib.Core.Path.{refl}
use Rattle.sha256.specs.Sha256.{initial_state}
use Rattle.sha256.proofs.initial_state.Goals as goal

pub returns : goal.returns
unfolding initial_state
returns c = refl
