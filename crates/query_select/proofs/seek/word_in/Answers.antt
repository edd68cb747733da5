use mathlib.Core.Path.{refl}
use native.Mathlib.Omega.{arith}
use Rattle.query_select.proofs.FindByHeaderLaws as laws
use Rattle.query_select.proofs.seek.word_in.Goals as goal

pub rest_in-rest-requires : goal.rest_in-rest-requires
rest_in-rest-requires c = laws.alone _ _ _ _ _ c.requires.0 c.requires.1 c.requires.2 c.requires.3 c.requires.4

pub returns-then-rest-eq0 : goal.returns-then-rest-eq0
returns-then-rest-eq0 c = laws.no_block _ _ _ _ _ c.requires.0 c.requires.1 c.requires.2 c.requires.3 c.requires.4 _ c.rest_in-rest.ensures _ c.if-rest-eq0.true

pub overflow_mul-way : goal.overflow_mul-way
overflow_mul-way c = record { fits = omega (arith, laws.way-small _ _ _ _ _ c.requires.0 c.requires.1 c.requires.2 c.requires.3 c.requires.4 _ (omega arith) refl) }

pub pointing_step-requires : goal.pointing_step-requires
pointing_step-requires c = let near = laws.way-small _ _ _ _ _ c.requires.0 c.requires.1 c.requires.2 c.requires.3 c.requires.4 _ (omega arith) refl in (
  laws.block-there _ _ _ _ _ c.requires.0 c.requires.1 c.requires.2 c.requires.3 c.requires.4,
  laws.seeking _ _ _ _ _ c.requires.0 c.requires.1 c.requires.2 c.requires.3 c.requires.4 _ c.rest_in-rest.ensures c.if-rest-eq0.false _ (omega arith) near,
)

pub returns : goal.returns
returns c = laws.sought _ _ _ _ _ c.requires.0 c.requires.1 c.requires.2 c.requires.3 c.requires.4 _ c.rest_in-rest.ensures c.if-rest-eq0.false _ _ refl c.pointing_step.ensures
