use native.Mathlib.Omega.{arith}
use Rattle.query_select.proofs.FindByHeaderLaws as first
use Rattle.query_guided.proofs.GuidedFindLaws as laws
use Rattle.query_guided.proofs.guided_find.find_guided_at.Goals as goal

pub returns-then-h-number : goal.returns-then-h-number
returns-then-h-number c = laws.guided-refused _ _ _ _ _ (first.number-none _ _
    c.requires _ _ _ c.number_of-number.ensures.0 c.if-h-number.true)

pub returns-then-j-eq0 : goal.returns-then-j-eq0
returns-then-j-eq0 c = laws.guided-refused _ _ _ _ _ (first.number-zero _ _ c.requires
    _ _ _ c.number_of-number.ensures.0 c.if-h-number.false c.if-j-eq0.true)

pub returns-then-all-j : goal.returns-then-all-j
returns-then-all-j c = laws.guided-refused _ _ _ _ _ (first.number_past _ _ c.requires
    _ _ _ c.number_of-number.ensures.0 c.if-h-number.false _ c.total-all.ensures c.if-all-j.true)

pub guided-requires : goal.guided-requires
guided-requires c = first.seek-ready _ _ c.requires _ _ _ c.number_of-number.ensures.0
    c.if-h-number.false _ c.total-all.ensures (omega (arith, c.if-j-eq0.false)) c.if-all-j.false

pub returns : goal.returns
returns c = laws.guided-sought _ _ _ _ _ _ c.number_of-number.ensures.0
    (first.asked-none _ _ c.requires _ _ _ c.number_of-number.ensures.0
    c.if-h-number.false _ c.total-all.ensures (omega (arith, c.if-j-eq0.false)) c.if-all-j.false)
    c.guided.ensures.0 c.guided.ensures.1
