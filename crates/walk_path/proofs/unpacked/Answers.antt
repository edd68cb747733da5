use mathlib.Core.Path.{ap, sym, ◌∙◌}
use Rattle.walk_path.specs.Walk.{walked_in}
use Rattle.walk_path.proofs.WalkLaws as laws
use Rattle.walk_path.proofs.unpacked.Goals as goal

pub returns-then-word-eq-BROKEN : goal.returns-then-word-eq-BROKEN
returns-then-word-eq-BROKEN c = laws.broken-word ∙ ap walked_in (sym c.if-word-eq-BROKEN.true)

pub returns : goal.returns
returns c = laws.unpacked-word _ c.if-word-eq-BROKEN.false
