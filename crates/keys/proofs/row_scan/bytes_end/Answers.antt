use native.Mathlib.Omega.{arith}
use Rattle.keys.proofs.RowScanLaws as laws
use Rattle.keys.proofs.row_scan.bytes_end.Goals as goal

pub returns-then-end-from : goal.returns-then-end-from
returns-then-end-from c = laws.end_empty _ _ _ c.requires.1 c.if-end-from.true

pub overflow_sub-end : goal.overflow_sub-end
overflow_sub-end c = omega (arith, c.requires.0, c.if-end-from.false)

pub bounds-part-end : goal.bounds-part-end
bounds-part-end c = omega (arith, c.requires.0, c.requires.1, c.if-end-from.false)

pub overflow_sub-result : goal.overflow_sub-result
overflow_sub-result c = omega (arith, c.requires.0, c.if-end-from.false)

pub returns-then-part-end-eq13 : goal.returns-then-part-end-eq13
returns-then-part-end-eq13 c = laws.end-cr _ _ _ c.requires.1 (omega (arith, c.requires.0, c.if-end-from.false)) c.if-part-end-eq13.true

pub returns : goal.returns
returns c = laws.end-plain _ _ _ c.requires.1 (omega (arith, c.requires.0, c.if-end-from.false)) c.if-part-end-eq13.false
