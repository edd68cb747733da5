use Rattle.std.proofs.Common.{sym, ◌∙◌}
use Rattle.keys.proofs.RowScanLaws.{step-past}
use Rattle.keys.proofs.row_scan.RangesRowScanner.advance.Goals as goal

pub returns-then-i-past : goal.returns-then-i-past
returns-then-i-past c = step-past _ _ _ _ _ _ (sym c.is_empty.ensures ∙ c.if-is_empty.true) c.past_row-past.ensures c.if-i-past.true
