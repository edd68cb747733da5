use native.Mathlib.Omega.{arith}
use Rattle.query_select.proofs.SeekLaws as laws
use Rattle.query_select.proofs.seek.rest_in.Goals as goal

pub before-before-requires : goal.before-before-requires
before-before-requires c = laws.select-field-there _ _ _ _ _ _ c.requires.facts c.requires.size_is c.requires.level_in (omega (arith, c.requires.end_in)) c.requires.number_in (omega arith)

pub returns-then-j-before : goal.returns-then-j-before
returns-then-j-before c = omega (arith, c.before-before.ensures)

pub returns : goal.returns
returns c = omega (arith, c.before-before.ensures)
