use native.Mathlib.Omega.{arith}
use mathlib.Core.Path.{sym, ◌∙◌}
use Rattle.build_records.proofs.StateLaws.{record-few}
use Rattle.build_by_scan.proofs.TableGivesMarking as laws
use Rattle.build_by_scan.proofs.scanned_fill.block_in.Goals as goal

pub kept_block-requires : goal.kept_block-requires
kept_block-requires c = record { block_next = c.requires.0.on; i_value = sym c.requires.0.kept_is ∙ c.if-b.true; link_value = c.requires.0.link_is }

pub returns-then-b : goal.returns-then-b
returns-then-b c = c.kept_block.ensures

pub overflow_cast-text : goal.overflow_cast-text
overflow_cast-text c = omega (arith, (record-few _ _ _ c.requires.0.on.level_is).text_few)

pub overflow_mul-i : goal.overflow_mul-i
overflow_mul-i c = omega (arith, (record-few _ _ _ c.requires.0.on.level_is).count_few, c.requires.0.on.block_in)

pub place_of-place-requires : goal.place_of-place-requires
place_of-place-requires c = let il = laws.block_here _ _ _ _ _ c.requires.0.on _ c.requires.1 in (omega (arith, c.requires.1.room, il), c.requires.1.equal_before _ il)

pub pointing_block-requires : goal.pointing_block-requires
pointing_block-requires c = record { block_next = c.requires.0.on; i_value = sym c.requires.0.kept_is ∙ c.if-b.false; place_value = c.place_of-place.ensures ∙ c.requires.1.place _ (laws.block_here _ _ _ _ _ c.requires.0.on _ c.requires.1) }

pub returns : goal.returns
returns c = c.pointing_block.ensures
