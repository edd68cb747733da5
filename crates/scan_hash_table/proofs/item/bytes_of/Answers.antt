use native.Mathlib.Omega.{arith}
use Rattle.scan_hash_table.proofs.ItemLaws as laws
use Rattle.scan_hash_table.proofs.item.bytes_of.Goals as goal

pub overflow_mul-x : goal.overflow_mul-x
overflow_mul-x c = omega (arith, c.requires.0.starts _ c.requires.1)

pub overflow_add-it : goal.overflow_add-it
overflow_add-it c = omega (arith, c.requires.0.starts _ c.requires.1)

pub read-start-requires : goal.read-start-requires
read-start-requires c = c.requires.0.starts _ c.requires.1

pub overflow_mul-it : goal.overflow_mul-it
overflow_mul-it c = omega (arith, laws.full-few _ _ _ c.requires.0 _ c.requires.1)

pub overflow_cast-text : goal.overflow_cast-text
overflow_cast-text c = omega (arith, c.requires.0.few)

pub overflow_sub-text : goal.overflow_sub-text
overflow_sub-text c = omega (arith, c.requires.0.few, laws.start-in _ _ _ c.requires.0 _ c.requires.1 _ c.read-start.ensures)

pub returns : goal.returns
returns c = laws.run_is _ _ _ c.requires.0 _ c.requires.1 _ c.read-start.ensures _ c.min.ensures
