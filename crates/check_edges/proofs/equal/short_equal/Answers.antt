use mathlib.Core.Path.{refl, ◌∙◌}
use native.Mathlib.Omega.{arith}
use Rattle.layout.proofs.AnswerTests.{failed, held}
use Rattle.check_edges.proofs.EightLaws as laws
use Rattle.check_edges.proofs.equal.short_equal.Goals as goal

pub returns-then-not-eight_equal : goal.returns-then-not-eight_equal
returns-then-not-eight_equal c = laws.part-differs _ _ _ _ 0 _ _ _ (omega arith) (omega arith) c.requires.1 c.requires.2 (omega arith)
    (failed c.eight_equal.ensures c.if-not-eight_equal.true-raw)

pub returns : goal.returns
returns c = c.eight_equal-2.ensures
    ∙ laws.rest-decides _ _ _ _ _ _ _ _ refl refl c.requires.1 c.requires.2 _ (omega (arith, c.requires.0)) (omega arith)
    (held c.eight_equal.ensures c.if-not-eight_equal.false-raw)
