use borrow.Author.Rules.{rules}
use Rattle.format.specs.Layout.{level_count}
use Rattle.layout.proofs.record.level_count.Goals as goal

pub read-requires : goal.read-requires
unfolding level_count
read-requires c = search rules

pub returns : goal.returns
unfolding level_count
returns c = c.read.ensures
