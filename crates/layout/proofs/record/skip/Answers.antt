use borrow.Author.Rules.{rules}
use Rattle.format.specs.Layout.{skip}
use Rattle.layout.proofs.record.skip.Goals as goal

pub field-requires : goal.field-requires
unfolding skip
field-requires c = search rules

pub returns : goal.returns
unfolding skip
returns c = c.field.ensures
