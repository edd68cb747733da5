use native.Mathlib.Omega.{arith}
use mathlib.Core.Path.{refl}
use Rattle.scan_hash_table.specs.ChainHeads.{link_of}
use Rattle.scan_hash_table.specs.Entries.{head_in}
use Rattle.scan_rolling_hash.proofs.WindowFingerprintLaws.{is-fingerprint-below}
use Rattle.scan_hash_table.proofs.EntryLaws as laws
use Rattle.scan_hash_table.proofs.entry.enter.Goals as goal

pub bytes_of-own-requires : goal.bytes_of-own-requires
unfolding link_of head_in
bytes_of-own-requires c = (c.requires.0.laid.placed, c.requires.0.item_in)

pub equal_item-e-requires : goal.equal_item-e-requires
unfolding link_of head_in
equal_item-e-requires c = (c.requires.0, c.bytes_of-own.ensures.fits, is-fingerprint-below _ _ _ c.requires.1)

pub overflow_cast-words : goal.overflow_cast-words
unfolding link_of head_in
overflow_cast-words c = omega (arith, c.requires.0.laid.placed.few)

pub overflow_add-words : goal.overflow_add-words
unfolding link_of head_in
overflow_add-words c = omega (arith, c.requires.0.laid.placed.few, c.requires.0.laid.placed.items_few, c.requires.0.item_in, c.equal_item-e.ensures.low)

pub bounds-words-x : goal.bounds-words-x
unfolding link_of head_in
bounds-words-x c = omega (arith, c.requires.0.laid.room, c.requires.0.item_in)

pub returns-then-e-ne0 : goal.returns-then-e-ne0
unfolding link_of head_in
returns-then-e-ne0 c = laws.is-equal _ _ _ _ _ _ c.requires.0 (omega arith) _ c.if-e-ne0.true
    (laws.equal-at _ _ _ _ _ c.requires.0 _ _ _ c.bytes_of-own.ensures.start_is c.bytes_of-own.ensures.length_is c.equal_item-e.ensures) refl

pub bucket-requires : goal.bucket-requires
unfolding link_of head_in
bucket-requires c = (c.requires.0.laid.heads_low, is-fingerprint-below _ _ _ c.requires.1)

pub put-requires : goal.put-requires
unfolding link_of head_in
put-requires c = (c.requires.0.laid.room, c.requires.0.laid.placed.items_few, c.requires.0.item_in, c.bucket.ensures.1)

pub shape_of-words : goal.shape_of-words
unfolding link_of head_in
shape_of-words c = c.put.ensures.same_length

pub returns : goal.returns
unfolding link_of head_in
returns c = laws.is-entered _ _ _ _ _ _ _ _ _ c.requires.0 c.put.ensures c.requires.1
    c.bytes_of-own.ensures.start_is (laws.chain-of _ _ _ _ _ c.requires.0 _ _ c.requires.1 c.bucket.ensures.0)
