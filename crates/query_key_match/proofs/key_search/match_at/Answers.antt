use mathlib.Core.Path.{sym, ◌∙◌}
use native.Mathlib.Omega.{arith}
use borrow.Author.Rules.{rules}
use borrow.Author.Tests.{not-true, not-false}
use Rattle.keys.specs.Keys.{matches}
use Rattle.keys.specs.KeyStates.{key_automaton}
use Rattle.keys.proofs.RangesLaws.{range-short}
use Rattle.keys.proofs.RowKeyStates.{reads}
use Rattle.query_rows.specs.RowSpans.{settled_by}
use Rattle.query_row_filter.proofs.AllowedAnswerLaws.{answer-found}
use Rattle.query_key_match.proofs.MatchAnswerLaws.{match-19, match-good}
use Rattle.query_key_match.proofs.key_search.match_at.Goals as goal

pub are_ranges-requires : goal.are_ranges-requires
unfolding settled_by
are_ranges-requires c = search rules

pub returns-then-not-are_ranges : goal.returns-then-not-are_ranges
unfolding settled_by
returns-then-not-are_ranges c = match-19 _ _ _ c.requires.passes (sym c.are_ranges.ensures ∙ not-true _ c.if-not-are_ranges.true-raw)

pub invariant_of-ranges : goal.invariant_of-ranges
unfolding settled_by
invariant_of-ranges c = record { few = range-short _ (sym c.are_ranges.ensures ∙ not-false _ c.if-not-are_ranges.false-raw) }

pub begin-start-requires : goal.begin-start-requires
unfolding settled_by
begin-start-requires c = search rules

pub overflow_add-mark : goal.overflow_add-mark
unfolding settled_by
overflow_add-mark c = omega (arith, (c.begin-start.ensures.begins_at _ _ c.in-At.is).mark_low, c.requires.length_is, c.requires.facts.bounds.text_high)

pub search-requires : goal.search-requires
unfolding settled_by
search-requires c = let at = c.begin-start.ensures.begins_at _ _ c.in-At.is in (
  c.requires,
  omega (arith, at.place-in, c.requires.length_is),
  omega arith,
  omega (arith, at.mark_low, c.requires.length_is),
)

pub limit-requires : goal.limit-requires
unfolding settled_by
limit-requires c = search rules

pub returns-in-At : goal.returns-in-At
unfolding settled_by
returns-in-At c = let ok = sym c.are_ranges.ensures ∙ not-false _ c.if-not-are_ranges.false-raw in
    let at = c.begin-start.ensures.begins_at _ _ c.in-At.is in
    rw c.limit.ensures (match-good _ _ _ c.requires.passes ok _
    (answer-found (key_automaton c.args.question.now) (matches c.args.question.now) (reads c.args.question.now ok) _ _ _ _ _ (λ v. v) at _ c.search.ensures))

pub returns-in-Answered : goal.returns-in-Answered
unfolding settled_by
returns-in-Answered c = match-good _ _ _ c.requires.passes (sym c.are_ranges.ensures ∙ not-false _ c.if-not-are_ranges.false-raw) _
    (c.begin-start.ensures.answered _ c.in-Answered.is (matches c.args.question.now))
