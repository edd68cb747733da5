use borrow.Author.Rules.{rules}
use Rattle.format.specs.Layout.{pieces}
use Rattle.layout.proofs.settings.pieces.Goals as goal

pub returns : goal.returns
unfolding pieces
returns c = search rules
