use mathlib.Core.Path.{sym, ◌∙◌}
use Rattle.licence.proofs.ClosedForms.{ranged, last_test, no_year, no_month}
use Rattle.licence.proofs.calendar.is_date.Goals as goal
use Rattle.licence.proofs.calendar.is_date.Goals.{then-contains, else-contains}

pub returns-then-contains-2 : goal.returns-then-contains-2
returns-then-contains-2 c = elim c.if-contains.branch [
  | then-contains w ↦
      let year = ranged 2000 2099 c.args.d.year _ _ _ _ c.contains.ensures.value c.new.ensures.start c.new.ensures.end c.new.ensures.exhausted in
      let month = ranged 1 12 c.args.d.month _ _ _ _ w.contains-then-contains.ensures.value
      w.new-then-contains.ensures.start w.new-then-contains.ensures.end w.new-then-contains.ensures.exhausted in
      let day = ranged 1 _ c.args.d.day _ _ _ _ c.contains-then-contains-2.ensures.value
      c.new-then-contains-2.ensures.start (c.new-then-contains-2.ensures.end ∙ c.month_length.ensures) c.new-then-contains-2.ensures.exhausted in
      last_test c.args.d _ _ _ year month day w.if-contains.true (sym w.value-is ∙ c.if-contains-2.true)
  | else-contains w ↦ cc
]

pub returns-else-contains-2 : goal.returns-else-contains-2
returns-else-contains-2 c = elim c.if-contains.branch [
  | then-contains w ↦
      let year = ranged 2000 2099 c.args.d.year _ _ _ _ c.contains.ensures.value c.new.ensures.start c.new.ensures.end c.new.ensures.exhausted in
      let month = ranged 1 12 c.args.d.month _ _ _ _ w.contains-then-contains.ensures.value
      w.new-then-contains.ensures.start w.new-then-contains.ensures.end w.new-then-contains.ensures.exhausted in
      no_month c.args.d _ _ _ year month w.value-is c.if-contains-2.false
  | else-contains w ↦
      let year = ranged 2000 2099 c.args.d.year _ _ _ _ c.contains.ensures.value c.new.ensures.start c.new.ensures.end c.new.ensures.exhausted in
      no_year c.args.d _ _ year w.value-is c.if-contains-2.false
]
