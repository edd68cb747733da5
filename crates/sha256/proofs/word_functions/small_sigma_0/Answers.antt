use mathlib.Core.Path.{refl}
use borrow.Author.Rules.{rules}
use Rattle.sha256.specs.Sha256.{sigma0}
use Rattle.sha256.proofs.WordFunctionsLaws.{xor3}
use Rattle.sha256.proofs.word_functions.small_sigma_0.Goals as goal

pub rotate-requires : goal.rotate-requires
unfolding sigma0
rotate-requires c = search rules

pub rotate-requires-2 : goal.rotate-requires-2
unfolding sigma0
rotate-requires-2 c = search rules

pub returns : goal.returns
unfolding sigma0
returns c = xor3 _ _ _ _ _ _ c.rotate.ensures c.rotate-2.ensures refl
