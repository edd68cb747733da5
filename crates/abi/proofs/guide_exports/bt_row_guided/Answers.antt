use Rattle.abi.proofs.CountExportsLaws as laws
use Rattle.abi.proofs.guide_exports.bt_row_guided.Goals as goal

pub returns : goal.returns
returns c = laws.row_by _ _ _ _ _ _ _ _ c.put_row.ensures c.row_guided-copied.ensures.answers
