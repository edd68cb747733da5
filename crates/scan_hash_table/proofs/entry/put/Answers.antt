use borrow.Author.Rules.{rules}
use native.Mathlib.Omega.{arith}
use lib.ListN.{length-set}
use mathlib.Core.Path.{refl}
use Rattle.scan_hash_table.specs.ChainHeads.{link_of}
use Rattle.scan_hash_table.specs.Entries.{head_in}
use Rattle.scan_hash_table.proofs.EntryWrites as laws
use Rattle.scan_hash_table.proofs.entry.put.Goals as goal

pub bounds-words-at-2 : goal.bounds-words-at-2
unfolding link_of head_in
bounds-words-at-2 c = simp length-set (omega (arith, c.requires))

pub bounds-words-at-3 : goal.bounds-words-at-3
unfolding link_of head_in
bounds-words-at-3 c = simp length-set (omega (arith, c.requires))

pub pushed-requires : goal.pushed-requires
unfolding link_of head_in
pushed-requires c = search rules

pub bounds-words-head-2 : goal.bounds-words-head-2
unfolding link_of head_in
bounds-words-head-2 c = simp length-set (omega (arith, c.requires))

pub returns : goal.returns
unfolding link_of head_in
returns c = laws.is-put c.args.words.now _ _ _ _ _ _ _ _ c.requires.0 c.requires.2 c.requires.3 refl c.pushed.ensures
