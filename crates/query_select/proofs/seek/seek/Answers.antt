use native.Mathlib.Omega.{arith}
use Rattle.walk_steps.proofs.NextLaws.{on-top}
use Rattle.query_select.proofs.FindByHeaderLaws as laws
use Rattle.query_select.proofs.seek.seek.Goals as goal

pub first_block-block-requires : goal.first_block-block-requires
first_block-block-requires c = (laws.full-level _ _ c.requires.0, c.requires.1, omega (arith, c.requires.3, c.requires.4))

pub word_in-requires : goal.word_in-requires
word_in-requires c = (on-top _ _ c.requires.0, c.requires.1, c.requires.3, c.requires.4, laws.stopped _ _ _ _ c.requires.1 c.requires.3 c.first_block-block.ensures)

pub returns : goal.returns
returns c = (
  laws.from_first _ _ _ _ c.requires.1 c.requires.3 c.first_block-block.ensures _ _
      (laws.sought-by _ _ _ _ _ _ _ _ c.requires.0.length_is c.requires.2 c.text_place.ensures.0 c.word_in.ensures),
  c.text_place.ensures.1,
)
