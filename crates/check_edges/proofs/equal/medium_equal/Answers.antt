use mathlib.Core.Path.{refl, ◌∙◌}
use native.Mathlib.Omega.{arith}
use Rattle.layout.proofs.AnswerTests.{failed, held}
use Rattle.check_edges.proofs.EightLaws as laws
use Rattle.check_edges.proofs.equal.medium_equal.Goals as goal

pub returns-then-not-short_equal : goal.returns-then-not-short_equal
returns-then-not-short_equal c = laws.part-differs _ _ _ _ 0 _ _ _ (omega arith) (omega arith) c.requires.1 c.requires.2 (omega arith)
    (failed c.short_equal-2.ensures c.if-not-short_equal.true-raw)

pub returns : goal.returns
returns c = c.short_equal-3.ensures
    ∙ laws.rest-decides _ _ _ _ _ _ _ _ refl refl c.requires.1 c.requires.2 _ (omega (arith, c.requires.0)) (omega arith)
    (held c.short_equal-2.ensures c.if-not-short_equal.false-raw)
