use mathlib.Core.Path.{refl}
use borrow.Author.Rules.{rules}
use Rattle.sha256.specs.Sha256.{sigma1}
use Rattle.sha256.proofs.WordFunctionsLaws.{xor3}
use Rattle.sha256.proofs.word_functions.small_sigma_1.Goals as goal

pub rotate-requires : goal.rotate-requires
unfolding sigma1
rotate-requires c = search rules

pub rotate-requires-2 : goal.rotate-requires-2
unfolding sigma1
rotate-requires-2 c = search rules

pub returns : goal.returns
unfolding sigma1
returns c = xor3 _ _ _ _ _ _ c.rotate.ensures c.rotate-2.ensures refl
