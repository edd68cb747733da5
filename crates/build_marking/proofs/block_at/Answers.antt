use mathlib.Core.Path.{sym, ◌∙◌}
use Rattle.build_marking.proofs.block_at.Goals as goal

pub kept_block-requires : goal.kept_block-requires
kept_block-requires c = record { block_next = c.requires.on; i_value = sym c.requires.kept_is ∙ c.if-b.true; link_value = c.requires.link_is }

pub returns-then-b : goal.returns-then-b
returns-then-b c = c.kept_block.ensures

pub first_place-place-requires : goal.first_place-place-requires
first_place-place-requires c = c.requires.on

pub pointing_block-requires : goal.pointing_block-requires
pointing_block-requires c = record { block_next = c.requires.on; i_value = sym c.requires.kept_is ∙ c.if-b.false; place_value = c.first_place-place.ensures }

pub returns : goal.returns
returns c = c.pointing_block.ensures
