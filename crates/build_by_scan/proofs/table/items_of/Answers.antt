use native.Mathlib.Omega.{arith}
use lib.ListN.{length}
use Rattle.format.specs.Blocks.{record_bytes}
use Rattle.build_records.specs.State.{record_settings_of}
use Rattle.build_by_scan.proofs.TableRoom.{pieces-few}
use Rattle.build_by_scan.proofs.TableGivesMarking.{same-items}
use Rattle.build_by_scan.proofs.table.items_of.Goals as goal

pub overflow_add-items : goal.overflow_add-items
overflow_add-items c = omega (arith, c.requires.5, pieces-few (length c.args.text.now) c.args.level.settings.leaf, c.requires.3, c.requires.4)

pub overflow_sub-items : goal.overflow_sub-items
overflow_sub-items c = omega (arith, c.requires.1)

pub overflow_cast-text : goal.overflow_cast-text
overflow_cast-text c = omega (arith, c.requires.4)

pub pieces-words-requires : goal.pieces-words-requires
pieces-words-requires c = (c.requires.4, c.requires.2, omega (arith, c.requires.3))

pub overflow_mul-words : goal.overflow_mul-words
overflow_mul-words c = omega (arith, c.pieces-words.ensures, pieces-few (length c.args.text.now) c.args.level.settings.leaf, c.requires.3, c.requires.4)

pub record_size-requires : goal.record_size-requires
record_size-requires c = (c.requires.0, c.requires.3)

pub overflow_cast-result : goal.overflow_cast-result
overflow_cast-result c = omega (arith, c.record_size.ensures.2)

pub overflow_mul-items : goal.overflow_mul-items
overflow_mul-items c = omega (arith, c.requires.5, c.requires.1, pieces-few (length c.args.text.now) c.args.level.settings.leaf, c.requires.3, c.requires.4)

pub overflow_sub-words : goal.overflow_sub-words
overflow_sub-words c = omega (arith, c.requires.5, c.requires.1, c.pieces-words.ensures)

pub overflow_mul-items-2 : goal.overflow_mul-items-2
overflow_mul-items-2 c = omega (arith, c.requires.5, c.requires.1, pieces-few (length c.args.text.now) c.args.level.settings.leaf, c.requires.3, c.requires.4)

pub returns : goal.returns
returns c = same-items (length c.args.text.now) (record_bytes (record_settings_of c.args.level.settings c.args.counted.now))
    c.args.level c.args.seed _ _ _ c.pieces-words.ensures c.record_size.ensures.0 c.min.ensures
