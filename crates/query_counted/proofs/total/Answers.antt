use native.Mathlib.Omega.{arith}
use Rattle.query_counted.proofs.TotalLaws as laws
use Rattle.query_counted.proofs.total.Goals as goal

pub returns-then-count-eq0 : goal.returns-then-count-eq0
returns-then-count-eq0 c = laws.total-none _ _ _ c.level_count-count.ensures c.if-count-eq0.true

pub before-before-requires : goal.before-before-requires
before-before-requires c = laws.counted-field-there _ _ _ _ _ _ c.requires.0
    (omega (arith, c.requires.0.facts.bounds.levels_low)) (omega (arith, c.level_count-count.ensures, c.if-count-eq0.false)) c.requires.1 (omega arith)

pub inside-requires : goal.inside-requires
inside-requires c = laws.counted-field-there _ _ _ _ _ _ c.requires.0 (omega (arith, c.requires.0.facts.bounds.levels_low))
    (omega (arith, c.level_count-count.ensures, c.if-count-eq0.false)) c.requires.1 (omega arith)

pub returns : goal.returns
returns c = laws.total_is _ _ _ _ _
    c.level_count-count.ensures c.if-count-eq0.false c.before-before.ensures c.inside.ensures
