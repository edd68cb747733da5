use Rattle.abi.proofs.CountExportsLaws as laws
use Rattle.abi.proofs.bt_row.Goals as goal

pub returns : goal.returns
returns c = laws.row_by _ _ _ _ _ _ _ _ c.put_row.ensures c.row-copied.ensures.answers
