use borrow.Author.Rules.{rules}
use Rattle.format.specs.Layout.{start}
use Rattle.layout.proofs.record.start.Goals as goal

pub field-requires : goal.field-requires
unfolding start
field-requires c = search rules

pub returns : goal.returns
unfolding start
returns c = c.field.ensures
