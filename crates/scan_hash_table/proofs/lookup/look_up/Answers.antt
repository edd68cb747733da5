use borrow.Author.Rules.{rules}
use native.Mathlib.Omega.{arith}
use Rattle.scan_hash_table.specs.ChainHeads.{link_of}
use Rattle.scan_hash_table.specs.Entries.{head_in}
use Rattle.scan_rolling_hash.proofs.WindowFingerprintLaws.{is-fingerprint-below}
use Rattle.scan_hash_table.proofs.LookupLaws as laws
use Rattle.scan_hash_table.proofs.lookup.look_up.Goals as goal

pub bucket-requires : goal.bucket-requires
unfolding link_of head_in
bucket-requires c = (c.requires.laid.heads_low, is-fingerprint-below _ _ _ c.requires.fingerprint_is)

pub overflow_add-first : goal.overflow_add-first
unfolding link_of head_in
overflow_add-first c = omega (arith, c.requires.laid.room, c.bucket.ensures.1)

pub offset_bounds-words-it : goal.offset_bounds-words-it
unfolding link_of head_in
offset_bounds-words-it c = omega (arith, c.requires.laid.room, c.bucket.ensures.1)

pub bounds-words-it : goal.bounds-words-it
unfolding link_of head_in
bounds-words-it c = omega (arith, c.requires.laid.room, c.bucket.ensures.1)

pub marked-requires : goal.marked-requires
unfolding link_of head_in
marked-requires c = search rules

pub traverse_chain-requires : goal.traverse_chain-requires
unfolding link_of head_in
traverse_chain-requires c = (c.requires, laws.head-link _ _ _ _ _ _ _ c.requires _ c.bucket.ensures.0 c.bucket.ensures.1)

pub shape_of-words : goal.shape_of-words
unfolding link_of head_in
shape_of-words c = c.traverse_chain.ensures.searched.same_length

pub returns-then-marked : goal.returns-then-marked
unfolding link_of head_in
returns-then-marked c = laws.looked-up-chain _ _ _ _ _ _ _ c.requires _ c.traverse_chain.ensures

pub returns-else-marked : goal.returns-else-marked
unfolding link_of head_in
returns-else-marked c = laws.looked-up-past _ _ _ _ _ _ _ c.requires
    _ c.bucket.ensures.0 c.bucket.ensures.1 _ c.marked.ensures c.if-marked.false
