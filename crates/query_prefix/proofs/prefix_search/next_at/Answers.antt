use native.Mathlib.Omega.{arith}
use Rattle.row_filter.specs.SelectedRows.{starts_with}
use Rattle.prefix_match.specs.PrefixStates.{prefix_automaton}
use Rattle.prefix_match.proofs.PrefixRecognized.{recognizes}
use Rattle.query_rows.proofs.RowBoundsLaws.{settled-sound}
use Rattle.query_row_filter.proofs.AllowedAnswerLaws.{answer-found}
use Rattle.query_prefix.proofs.PrefixSearchLaws.{prefix-short, prefix-long, prefix-good}
use Rattle.query_prefix.proofs.prefix_search.next_at.Goals as goal

pub returns-then-prefix-lt1 : goal.returns-then-prefix-lt1
returns-then-prefix-lt1 c = prefix-short _ _ _ _ c.requires.passes c.if-prefix-lt1.true

pub returns-then-prefix-gt-MAX_PATTERN : goal.returns-then-prefix-gt-MAX_PATTERN
returns-then-prefix-gt-MAX_PATTERN c = prefix-long _ _ _ _ c.requires.passes c.if-prefix-lt1.false c.if-prefix-gt-MAX_PATTERN.true

pub overflow_add-mark : goal.overflow_add-mark
overflow_add-mark c = omega (arith, (c.begin-start.ensures.begins_at _ _ c.in-At.is).mark_low, c.requires.length_is, c.requires.facts.bounds.text_high)

pub search-requires : goal.search-requires
search-requires c = let at = c.begin-start.ensures.begins_at _ _ c.in-At.is in (
  c.requires,
  omega (arith, at.place-in, c.requires.length_is),
  omega arith,
  omega (arith, at.mark_low, c.requires.length_is),
)

pub returns-in-At : goal.returns-in-At
returns-in-At c = let at = c.begin-start.ensures.begins_at _ _ c.in-At.is in
    rw c.limit.ensures (prefix-good _ _ _ _ c.requires.passes c.if-prefix-lt1.false c.if-prefix-gt-MAX_PATTERN.false _
    (answer-found (prefix_automaton c.args.prefix.now) (starts_with c.args.prefix.now) (recognizes c.args.prefix.now c.if-prefix-lt1.false) _ _ _ _ _ (settled-sound _ _ _) at
    _ c.search.ensures))

pub returns-in-Answered : goal.returns-in-Answered
returns-in-Answered c = prefix-good _ _ _ _ c.requires.passes c.if-prefix-lt1.false c.if-prefix-gt-MAX_PATTERN.false _
    (c.begin-start.ensures.answered _ c.in-Answered.is (starts_with c.args.prefix.now))
