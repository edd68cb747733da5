use Rattle.list_lines.proofs.LineLaws as laws
use Rattle.list_lines.proofs.print.Goals as goal

pub returns-in-Err : goal.returns-in-Err
returns-in-Err c = laws.print-refused _ _ _ c.check_input.ensures c.in-Err.is c.refused.ensures
