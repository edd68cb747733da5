use borrow.Author.Rules.{rules}
use Rattle.format.specs.Layout.{inside}
use Rattle.layout.proofs.record.inside.Goals as goal

pub field-requires : goal.field-requires
unfolding inside
field-requires c = search rules

pub returns : goal.returns
unfolding inside
returns c = c.field.ensures
