use mathlib.Core.Path.{◌∙◌}
use Rattle.cases_tokens.proofs.DecimalLaws.{number-none, number-starts, number-stops, number-goes, number-ends}
use Rattle.cases_tokens.proofs.decimal.read_number.Goals as goal

pub returns-then-word-eq0 : goal.returns-then-word-eq0
returns-then-word-eq0 c = number-none _ c.if-word-eq0.true

pub loop-digit-init : goal.loop-digit-init
loop-digit-init c = number-starts _ c.if-word-eq0.false

pub returns-in_err-value : goal.returns-in_err-value
returns-in_err-value c = c.from_residual.ensures
    ∙ number-stops c.args.word.now _ _ _ c.loop-digit-test.true c.more.ensures c.in_err-value.was
    ∙ c.loop-digit.invariant

pub loop-digit-preserved : goal.loop-digit-preserved
loop-digit-preserved c = number-goes c.args.word.now _ _ _ c.loop-digit-test.true c.more.ensures _ c.in_ok-value.was ∙ c.loop-digit.invariant

pub returns : goal.returns
returns c = number-ends c.args.word.now _ _ c.loop-digit-test.false ∙ c.loop-digit.invariant
