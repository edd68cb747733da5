use native.Mathlib.Omega.{arith}
use mathlib.Core.Path.{sym, ◌∙◌}
use borrow.Author.Tests.{not-true, not-false}
use Rattle.text.specs.ListLaws.{all_below-at}
use Rattle.licence.proofs.DaysLaws.{read-long, read-other, read-date}
use Rattle.licence.proofs.days.read.Goals as goal
use Rattle.licence.proofs.days.read.Goals.{then-s-ne8-via-then-s-ne8, then-s-ne8-via-else-s-ne8+then-not-digits}

pub returns-then-s-ne8 : goal.returns-then-s-ne8
returns-then-s-ne8 c = elim c.then-s-ne8.branch [
  | then-s-ne8-via-then-s-ne8 w ↦ read-long _ w.if-s-ne8.true
  | then-s-ne8-via-else-s-ne8+then-not-digits w ↦ read-other _ w.if-s-ne8.false (sym w.digits.ensures ∙ not-true _ w.if-not-digits.true-raw)
]

pub pair-requires : goal.pair-requires
pair-requires c = let h = all_below-at 8 _ (sym c.digits.ensures ∙ not-false _ c.if-not-digits.false-raw) in
    (omega arith, h 0 (omega arith), h 1 (omega arith))

pub pair-requires-2 : goal.pair-requires-2
pair-requires-2 c = let h = all_below-at 8 _ (sym c.digits.ensures ∙ not-false _ c.if-not-digits.false-raw) in
    (omega arith, h 2 (omega arith), h 3 (omega arith))

pub pair-requires-3 : goal.pair-requires-3
pair-requires-3 c = let h = all_below-at 8 _ (sym c.digits.ensures ∙ not-false _ c.if-not-digits.false-raw) in
    (omega arith, h 4 (omega arith), h 5 (omega arith))

pub pair-requires-4 : goal.pair-requires-4
pair-requires-4 c = let h = all_below-at 8 _ (sym c.digits.ensures ∙ not-false _ c.if-not-digits.false-raw) in
    (omega arith, h 6 (omega arith), h 7 (omega arith))

pub returns : goal.returns
returns c = c.then_some.ensures ∙ read-date _ c.if-s-ne8.false (sym c.digits.ensures ∙ not-false _ c.if-not-digits.false-raw) _ _ _ _
    c.pair.ensures.0 c.pair-2.ensures.0 c.pair-3.ensures.0 c.pair-4.ensures.0 _ c.is_date.ensures
