use borrow.Author.Rules.{rules}
use Rattle.sha256.specs.Sha256.{big_sigma0}
use Rattle.sha256.proofs.WordFunctionsLaws.{xor3}
use Rattle.sha256.proofs.word_functions.big_sigma_0.Goals as goal

pub rotate-requires : goal.rotate-requires
unfolding big_sigma0
rotate-requires c = search rules

pub rotate-requires-2 : goal.rotate-requires-2
unfolding big_sigma0
rotate-requires-2 c = search rules

pub rotate-requires-3 : goal.rotate-requires-3
unfolding big_sigma0
rotate-requires-3 c = search rules

pub returns : goal.returns
unfolding big_sigma0
returns c = xor3 _ _ _ _ _ _ c.rotate.ensures c.rotate-2.ensures c.rotate-3.ensures
