use mathlib.Core.Path.{sym, ◌∙◌}
use borrow.Author.Tests.{not-true, not-false}
use Rattle.columns.proofs.ColumnsWritten.{refused-width, refused-short, not-refused}
use Rattle.columns.proofs.check_lengths.Goals as goal

pub returns-then-not-divides : goal.returns-then-not-divides
returns-then-not-divides c = refused-width _ _ _ (sym c.divides.ensures ∙ not-true _ c.if-not-divides.true-raw)

pub returns-then-room-n : goal.returns-then-room-n
returns-then-room-n c = refused-short _ _ _ (sym c.divides.ensures ∙ not-false _ c.if-not-divides.false-raw) c.if-room-n.true

pub returns : goal.returns
returns c = not-refused _ _ _ (sym c.divides.ensures ∙ not-false _ c.if-not-divides.false-raw) c.if-room-n.false
