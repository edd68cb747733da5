use mathlib.Core.Path.{◌∙◌}
use Rattle.list_lines.proofs.LineLaws as laws
use Rattle.list_lines.proofs.check_input.Goals as goal

pub returns-then-input-gt-MAX_INPUT : goal.returns-then-input-gt-MAX_INPUT
returns-then-input-gt-MAX_INPUT c = laws.input-long _ c.if-input-gt-MAX_INPUT.true

pub returns : goal.returns
returns c = c.check.ensures ∙ laws.input-short _ c.if-input-gt-MAX_INPUT.false
