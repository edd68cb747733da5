use mathlib.Core.Path.{ap, ◌∙◌}
use native.Mathlib.Omega.{arith}
use Rattle.format.specs.Answers.{total}
use Rattle.query_counted.proofs.TotalLaws.{is-counted, not-counted}
use Rattle.query_rows.proofs.RowBoundsLaws.{settled-sound}
use Rattle.query_row_filter.proofs.AllowedAnswerLaws as laws
use Rattle.query_row_filter.proofs.rows_after.begin.Goals as goal

pub returns-then-h-number : goal.returns-then-h-number
returns-then-h-number c = laws.begin-answered _ _ _ _ (λ selected. laws.newline-11 _ _ _ selected (not-counted _ _ c.requires 10 _ c.number_of-number.ensures.0 c.if-h-number.true))

pub returns-then-h-mark : goal.returns-then-h-mark
returns-then-h-mark c = laws.begin-answered _ _ _ _ (λ selected. laws.few_bytes _ _ _ (is-counted _ _ c.requires 10 _ c.number_of-number.ensures.0 c.if-h-number.false) selected
    (omega (arith, c.if-h-mark.true, c.requires.length_is)))

pub returns-then-newlines-mark : goal.returns-then-newlines-mark
returns-then-newlines-mark c = let all = c.total-newlines.ensures ∙ ap (total c.args.t.now) c.number_of-number.ensures.0 in
    laws.begin-answered _ _ _ _ (λ selected. laws.few-total _ _ _ (is-counted _ _ c.requires 10 _ c.number_of-number.ensures.0 c.if-h-number.false) selected
    (settled-sound _ _ _) (omega (arith, c.if-newlines-mark.true, all)))

pub start-place-requires : goal.start-place-requires
start-place-requires c = let all = c.total-newlines.ensures ∙ ap (total c.args.t.now) c.number_of-number.ensures.0 in
    (c.requires, is-counted _ _ c.requires 10 _ c.number_of-number.ensures.0 c.if-h-number.false, omega (arith, c.if-newlines-mark.false, all), c.number_of-number.ensures.0, c.if-h-number.false)

pub returns-in_default : goal.returns-in_default
returns-in_default c = laws.begin-answered _ _ _ _ (λ selected. laws.newline-14 _ _ _ (is-counted _ _ c.requires 10 _ c.number_of-number.ensures.0 c.if-h-number.false) selected
    (c.start-place.ensures.broken c.in_default.is))

pub returns : goal.returns
returns c = let all = c.total-newlines.ensures ∙ ap (total c.args.t.now) c.number_of-number.ensures.0 in
    laws.begin-at _ _ _ _ _ (record {
      counted = is-counted _ _ c.requires 10 _ c.number_of-number.ensures.0 c.if-h-number.false;
      total_is = all;
      mark_high = omega (arith, c.if-newlines-mark.false);
      mark_low = omega (arith, c.if-h-mark.false, c.requires.length_is);
      place-in = c.start-place.ensures.place-in _ c.in-Some.is;
      place_is = c.start-place.ensures.place_is _ c.in-Some.is;
    })
