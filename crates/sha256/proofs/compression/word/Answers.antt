use borrow.Author.Rules.{rules}
use Rattle.sha256.specs.Sha256.{word_bE}
use Rattle.sha256.proofs.compression.word.Goals as goal

pub widen-requires : goal.widen-requires
unfolding word_bE
widen-requires c = search rules

pub widen-requires-2 : goal.widen-requires-2
unfolding word_bE
widen-requires-2 c = search rules

pub widen-requires-3 : goal.widen-requires-3
unfolding word_bE
widen-requires-3 c = search rules

pub widen-requires-4 : goal.widen-requires-4
unfolding word_bE
widen-requires-4 c = search rules

pub returns : goal.returns
unfolding word_bE
returns c = search rules
