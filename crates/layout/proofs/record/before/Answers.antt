use borrow.Author.Rules.{rules}
use Rattle.format.specs.Layout.{before}
use Rattle.layout.proofs.record.before.Goals as goal

pub field-requires : goal.field-requires
unfolding before
field-requires c = search rules

pub returns : goal.returns
unfolding before
returns c = c.field.ensures
