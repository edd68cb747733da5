use borrow.Author.Rules.{rules}
use Rattle.format.specs.Layout.{kind}
use Rattle.layout.proofs.record.kind.Goals as goal

pub field-requires : goal.field-requires
unfolding kind
field-requires c = search rules

pub returns : goal.returns
unfolding kind
returns c = c.field.ensures
