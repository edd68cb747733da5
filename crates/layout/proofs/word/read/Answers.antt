use borrow.Author.Rules.{rules}
use Rattle.format.specs.Layout.{word_at}
use Rattle.layout.proofs.word.read.Goals as goal

pub wide-requires : goal.wide-requires
unfolding word_at
wide-requires c = search rules

pub wide-requires-2 : goal.wide-requires-2
unfolding word_at
wide-requires-2 c = search rules

pub wide-requires-3 : goal.wide-requires-3
unfolding word_at
wide-requires-3 c = search rules

pub wide-requires-4 : goal.wide-requires-4
unfolding word_at
wide-requires-4 c = search rules

pub returns : goal.returns
unfolding word_at
returns c = search rules
