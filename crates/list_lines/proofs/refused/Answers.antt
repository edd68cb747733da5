use Rattle.list_lines.proofs.LineLaws as laws
use Rattle.list_lines.proofs.refused.Goals as goal

pub returns : goal.returns
returns c = rw (← c.number-number.ensures) (laws.refused-put _ c.requires c.bytes-end.ensures c.number_and.ensures)
