use borrow.Author.Rules.{rules}
use Rattle.format.specs.Layout.{gap}
use Rattle.layout.proofs.record.gap.Goals as goal

pub field-requires : goal.field-requires
unfolding gap
field-requires c = search rules

pub returns : goal.returns
unfolding gap
returns c = c.field.ensures
