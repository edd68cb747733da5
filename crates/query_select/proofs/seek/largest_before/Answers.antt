use native.Mathlib.Omega.{arith}
use Rattle.query_select.proofs.SeekLaws as laws
use Rattle.query_select.proofs.seek.largest_before.Goals as goal

pub overflow_add-block : goal.overflow_add-block
overflow_add-block c = omega (arith, c.requires.1)

pub before-a-requires : goal.before-a-requires
before-a-requires c = laws.select-field-there _ _ _ _ _ _ c.requires.0.facts c.requires.0.size_is c.requires.0.level_in (omega (arith, c.requires.0.end_in)) c.requires.0.number_in (omega arith)

pub overflow_add-block-2 : goal.overflow_add-block-2
overflow_add-block-2 c = omega (arith, c.requires.1)

pub before-b-requires : goal.before-b-requires
before-b-requires c = laws.select-field-there _ _ _ _ _ _ c.requires.0.facts c.requires.0.size_is c.requires.0.level_in (omega (arith, c.requires.0.end_in)) c.requires.0.number_in (omega arith)

pub overflow_add-block-3 : goal.overflow_add-block-3
overflow_add-block-3 c = omega (arith, c.requires.1)

pub before-c-requires : goal.before-c-requires
before-c-requires c = laws.select-field-there _ _ _ _ _ _ c.requires.0.facts c.requires.0.size_is c.requires.0.level_in (omega (arith, c.requires.0.end_in)) c.requires.0.number_in (omega arith)

pub overflow_add-block-4 : goal.overflow_add-block-4
overflow_add-block-4 c = omega (arith, c.requires.1)

pub before-d-requires : goal.before-d-requires
before-d-requires c = laws.select-field-there _ _ _ _ _ _ c.requires.0.facts c.requires.0.size_is c.requires.0.level_in (omega (arith, c.requires.0.end_in)) c.requires.0.number_in (omega arith)

pub returns : goal.returns
returns c = (
  omega (arith, c.before-a.ensures, c.max-2.ensures, c.max.ensures, c.max-3.ensures),
  omega (arith, c.before-b.ensures, c.max-2.ensures, c.max.ensures, c.max-3.ensures),
  omega (arith, c.before-c.ensures, c.max-2.ensures, c.max.ensures, c.max-3.ensures),
  omega (arith, c.before-d.ensures, c.max-2.ensures, c.max.ensures, c.max-3.ensures),
)
