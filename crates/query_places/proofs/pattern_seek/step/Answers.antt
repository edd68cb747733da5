use mathlib.Core.Path.{refl}
use native.Mathlib.Omega.{arith}
use Rattle.search_kmp.proofs.BorderLaws.{borders-fewer}
use Rattle.query_places.proofs.PatternStepLaws as laws
use Rattle.query_places.proofs.pattern_seek.step.Goals as goal

pub advance-state-requires : goal.advance-state-requires
advance-state-requires c = (c.requires.even.0.short, c.requires.pattern_in_bounds.0, borders-fewer _ _ _ _ c.requires.pattern_in_bounds.1 c.requires.even.0.short)

pub returns-then-state-pattern : goal.returns-then-state-pattern
returns-then-state-pattern c = laws.stepped-on _ _ _ _ _
    c.requires.even.0 _ c.advance-state.ensures.0 c.advance-state.ensures.1 c.advance-state.ensures.2 c.if-state-pattern.true

pub overflow_cast-pattern : goal.overflow_cast-pattern
overflow_cast-pattern c = omega (arith, c.if-state-pattern.false, c.advance-state.ensures.1, c.requires.even.0.state_low, c.requires.even.1)

pub overflow_sub-next : goal.overflow_sub-next
overflow_sub-next c = omega (arith, c.if-state-pattern.false, c.advance-state.ensures.1, c.requires.even.0.state_low)

pub note-requires : goal.note-requires
note-requires c = c.requires.even.2

pub overflow_add-result : goal.overflow_add-result
overflow_add-result c = omega (arith, c.requires.even.0.found_low, c.requires.even.1)

pub shape_of-table : goal.shape_of-table
shape_of-table c = c.note.auto.table

pub returns : goal.returns
returns c = laws.stepped-found _ _ _ _ _ c.requires.even.0 _ c.advance-state.ensures.0 c.advance-state.ensures.1
    c.advance-state.ensures.2 _ _ c.if-state-pattern.false refl c.note.ensures
