use mathlib.Core.Path.{◌∙◌}
use native.Mathlib.Omega.{arith}
use Rattle.query_rank.proofs.CountByHeaderLaws as laws
use Rattle.query_rank.proofs.count_by_header.count_at.Goals as goal

pub returns-then-h-i : goal.returns-then-h-i
returns-then-h-i c = record { answers = laws.count_past _ _ c.requires _ _ c.if-h-i.true; numbered = omega arith }

pub returns-then-h-number : goal.returns-then-h-number
returns-then-h-number c = record {
  answers = laws.count_none _ _
      c.requires _ _ c.if-h-i.false _ c.number_of-number.ensures.0 c.if-h-number.true;
  numbered = omega arith;
}

pub returns-then-i-eq0 : goal.returns-then-i-eq0
returns-then-i-eq0 c = record {
  answers = laws.count-nothing _ _ c.requires
      _ _ c.if-h-i.false _ c.number_of-number.ensures.0 c.if-h-number.false c.if-i-eq0.true;
  numbered = tt;
}

pub returns : goal.returns
returns c = record {
  answers = laws.count-walked
      _ _ c.requires _ _ c.if-h-i.false _ c.number_of-number.ensures.0 c.if-h-number.false
      c.if-i-eq0.false _ (c.settle.ensures.0 ∙ c.walk.ensures);
  numbered = c.settle.ensures.1;
}
