use native.Mathlib.Omega.{arith}
use Rattle.list_lines.proofs.LineLaws as laws
use Rattle.list_lines.proofs.levels.Goals as goal

pub loop-l-init : goal.loop-l-init
loop-l-init c = laws.no_lines _ _

pub loop-l-preserved : goal.loop-l-preserved
loop-l-preserved c = laws.lines_more
    _ _ (omega (arith, c.requires.1, laws.levels-few _ _ c.requires.0)) c.loop-l.invariant c.level_line-end.ensures
