use borrow.Author.Rules.{rules}
use Rattle.format.specs.Layout.{link}
use Rattle.layout.proofs.record.link.Goals as goal

pub field-requires : goal.field-requires
unfolding link
field-requires c = search rules

pub returns : goal.returns
unfolding link
returns c = c.field.ensures
