use native.Mathlib.Omega.{arith}
use Rattle.layout.proofs.AnswerTests.{failed, held}
use Rattle.walk_short.proofs.WholeLaws.{parts_in}
use Rattle.check_edges.proofs.TruthLaws as laws
use Rattle.check_edges.proofs.edges_match.edge_right.Goals as goal

pub returns-in_default : goal.returns-in_default
returns-in_default c = laws.none_found _ _ _ _ _ c.in_default.is

pub equal_at-requires : goal.equal_at-requires
equal_at-requires c = let q = parts_in _ _ _ _ c.in-Some.is c.requires.3 in (omega (arith, c.requires.0, c.requires.1, q.0), q.1)

pub returns-then-not-equal_at : goal.returns-then-not-equal_at
returns-then-not-equal_at c = laws.first-fails _ _ _ _ _ _ c.in-Some.is (failed c.equal_at.ensures c.if-not-equal_at.true-raw)

pub overflow_sub-rest : goal.overflow_sub-rest
overflow_sub-rest c = omega (arith, (parts_in _ _ _ _ c.in-Some.is c.requires.3).0)

pub equal_at-requires-2 : goal.equal_at-requires-2
equal_at-requires-2 c = let q = parts_in _ _ _ _ c.in-Some.is c.requires.3 in (omega (arith, c.requires.0, c.requires.1, q.0), q.2)

pub returns-then-not-equal_at-2 : goal.returns-then-not-equal_at-2
returns-then-not-equal_at-2 c = laws.second-fails _ _ _ _ _ _ c.in-Some.is
    (held c.equal_at.ensures c.if-not-equal_at.false-raw) (failed c.equal_at-2.ensures c.if-not-equal_at-2.true-raw)

pub returns : goal.returns
returns c = laws.third-decides _ _ _ _ _ _ c.in-Some.is
    (held c.equal_at.ensures c.if-not-equal_at.false-raw) (held c.equal_at-2.ensures c.if-not-equal_at-2.false-raw) _ c.all_zero.ensures
