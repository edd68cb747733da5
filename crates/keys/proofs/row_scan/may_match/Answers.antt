use native.Mathlib.Omega.{arith}
use Rattle.keys.proofs.RowScanLaws as laws
use Rattle.keys.proofs.row_scan.may_match.Goals as goal

pub bytes_end-last-requires : goal.bytes_end-last-requires
bytes_end-last-requires c = (c.requires.0, c.requires.1)

pub overflow_sub-last : goal.overflow_sub-last
overflow_sub-last c = omega (arith, c.bytes_end-last.ensures.low)

pub returns-then-last-from : goal.returns-then-last-from
returns-then-last-from c = laws.may-not-short _ _ _ _ _ c.requires.1 c.bytes_end-last.ensures c.if-last-from.true

pub overflow_sub-last-2 : goal.overflow_sub-last-2
overflow_sub-last-2 c = omega (arith, c.if-last-from.false)

pub cuts_fit-requires : goal.cuts_fit-requires
cuts_fit-requires c = omega (arith, c.if-last-from.false, c.bytes_end-last.ensures.high, c.requires.1)

pub returns : goal.returns
returns c = laws.may-by-cuts _ _ _ _ _ c.requires.1 c.bytes_end-last.ensures c.if-last-from.false _ c.cuts_fit.ensures
