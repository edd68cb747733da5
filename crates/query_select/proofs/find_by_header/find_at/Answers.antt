use native.Mathlib.Omega.{arith}
use Rattle.query_select.proofs.FindByHeaderLaws as laws
use Rattle.query_select.proofs.find_by_header.find_at.Goals as goal

pub returns-then-h-number : goal.returns-then-h-number
returns-then-h-number c = record {
  answers = laws.find_none _ _ c.requires _ _ _ c.number_of-number.ensures.0 c.if-h-number.true;
  numbered = omega arith;
}

pub returns-then-j-eq0 : goal.returns-then-j-eq0
returns-then-j-eq0 c = record {
  answers = laws.find-zero _ _ c.requires
      _ _ _ c.number_of-number.ensures.0 c.if-h-number.false c.if-j-eq0.true;
  numbered = omega arith;
}

pub returns-then-all-j : goal.returns-then-all-j
returns-then-all-j c = record {
  answers = laws.find_past _ _ c.requires
      _ _ _ c.number_of-number.ensures.0 c.if-h-number.false _ c.total-all.ensures c.if-all-j.true;
  numbered = omega arith;
}

pub seek-requires : goal.seek-requires
seek-requires c = laws.seek-ready _ _ c.requires _ _ _ c.number_of-number.ensures.0
    c.if-h-number.false _ c.total-all.ensures (omega (arith, c.if-j-eq0.false)) c.if-all-j.false

pub returns : goal.returns
returns c = record {
  answers = laws.find-sought _ _ c.requires
      _ _ _ c.number_of-number.ensures.0 c.if-h-number.false _ c.total-all.ensures
      _ (omega (arith, c.if-j-eq0.false)) c.if-all-j.false c.seek.ensures.0;
  numbered = c.seek.ensures.1;
}
