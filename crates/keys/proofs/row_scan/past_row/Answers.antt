use native.Mathlib.Omega.{arith}
use Rattle.keys.proofs.RowScanLaws as laws
use Rattle.keys.proofs.row_scan.past_row.Goals as goal

pub overflow_sub-n : goal.overflow_sub-n
overflow_sub-n c = omega (arith, c.requires)

pub find-k-requires : goal.find-k-requires
find-k-requires c = omega (arith, c.requires)

pub returns-then-n-k : goal.returns-then-n-k
returns-then-n-k c = laws.none_passed _ _ _ c.requires

pub overflow_add-from : goal.overflow_add-from
overflow_add-from c = omega (arith, c.requires)

pub may_match-requires : goal.may_match-requires
may_match-requires c = (omega arith, omega (arith, c.requires, c.if-n-k.false))

pub returns-then-may_match : goal.returns-then-may_match
returns-then-may_match c = laws.none_passed _ _ _ c.requires

pub overflow_add-result : goal.overflow_add-result
overflow_add-result c = omega (arith, c.requires, c.if-n-k.false)

pub overflow_add-result-2 : goal.overflow_add-result-2
overflow_add-result-2 c = omega (arith, c.requires, c.if-n-k.false)

pub returns : goal.returns
returns c = laws.one-passed _ _ _ _ (omega (arith, c.requires, c.if-n-k.false)) c.find-k.ensures.absent (c.find-k.ensures.there c.if-n-k.false)
    _ c.may_match.ensures c.if-may_match.false
