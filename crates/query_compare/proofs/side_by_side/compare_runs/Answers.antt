use native.Mathlib.Omega.{arith}
use Rattle.query_compare.proofs.SideBySideLaws as laws
use Rattle.query_compare.proofs.side_by_side.compare_runs.Goals as goal

pub agree-same-requires : goal.agree-same-requires
agree-same-requires c = laws.runs-inside _ _ _ _ _ c.requires.0 _ c.min-n.ensures

pub by_byte-requires : goal.by_byte-requires
by_byte-requires c = laws.byte_inside _ _ _ _ _ c.requires.0 _ c.min-n.ensures _ c.if-same-n.true

pub returns-then-same-n : goal.returns-then-same-n
returns-then-same-n c = laws.compare-differs _ _ _ _ _ c.requires.0
    _ c.min-n.ensures _ c.agree-same.ensures c.if-same-n.true _ c.by_byte.ensures

pub rest-first-requires : goal.rest-first-requires
rest-first-requires c = laws.rest-inside _ _ _ _ _ c.requires.0 _ c.min-n.ensures c.well_formed.0.0

pub rest-second-requires : goal.rest-second-requires
rest-second-requires c = laws.rest-inside-2 _ _ _ _ _ c.requires.0 _ c.min-n.ensures c.well_formed.1.1.0.0

pub overflow_cast-result : goal.overflow_cast-result
overflow_cast-result c = omega (arith, laws.place-small _ _ _ _ _ c.requires.0 _ c.min-n.ensures)

pub overflow_add-result : goal.overflow_add-result
overflow_add-result c = omega (arith, laws.place-small _ _ _ _ _ c.requires.0 _ c.min-n.ensures)

pub returns : goal.returns
returns c = laws.compare-on _ _ _ _ _ c.requires.0 _ c.min-n.ensures _ c.agree-same.ensures
    c.requires.1 c.requires.2 c.if-same-n.false _ _ c.rest-first.ensures c.rest-second.ensures
