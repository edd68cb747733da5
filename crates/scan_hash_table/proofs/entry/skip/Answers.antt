use native.Mathlib.Omega.{arith}
use Rattle.scan_hash_table.proofs.EntryLaws as laws
use Rattle.scan_hash_table.proofs.entry.skip.Goals as goal

pub overflow_cast-words : goal.overflow_cast-words
overflow_cast-words c = omega (arith, c.requires.laid.placed.few)

pub bounds-words-x : goal.bounds-words-x
bounds-words-x c = omega (arith, c.requires.laid.room, c.requires.item_in)

pub returns : goal.returns
returns c = laws.is-skipped _ _ _ _ _ _ c.requires (omega arith)
