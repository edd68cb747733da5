use native.Mathlib.Omega.{arith}
use Rattle.scan_hash_table.specs.Entries.{fingerprint_in, item_place_in}
use Rattle.scan_hash_table.proofs.ItemLaws as items
use Rattle.scan_hash_table.proofs.Chains as laws
use Rattle.scan_hash_table.proofs.lookup.compare_item.Goals as goal

pub bounds-words-at : goal.bounds-words-at
unfolding fingerprint_in item_place_in
bounds-words-at c = omega (arith, c.requires.0.laid.room, c.requires.1)

pub returns-then-words-at : goal.returns-then-words-at
unfolding fingerprint_in item_place_in
returns-then-words-at c = laws.other-fingerprint _ _ _ _ _ _ _ _ c.requires.0 c.requires.1 c.requires.2 c.if-words-at.true

pub bounds-words-at-2 : goal.bounds-words-at-2
unfolding fingerprint_in item_place_in
bounds-words-at-2 c = omega (arith, c.requires.0.laid.room, c.requires.1)

pub returns-then-words-at-2 : goal.returns-then-words-at-2
unfolding fingerprint_in item_place_in
returns-then-words-at-2 c = laws.found_before _ _ _ _ _ _ _ _ c.requires.0 c.requires.1 c.requires.2 c.if-words-at-2.true

pub occurs_at-requires : goal.occurs_at-requires
unfolding fingerprint_in item_place_in
occurs_at-requires c = (c.requires.0.laid.placed, c.requires.1, c.requires.0.fits)

pub bounds-words-at-then-occurs_at : goal.bounds-words-at-then-occurs_at
unfolding fingerprint_in item_place_in
bounds-words-at-then-occurs_at c = omega (arith, c.requires.0.laid.room, c.requires.1)

pub returns-then-occurs_at : goal.returns-then-occurs_at
unfolding fingerprint_in item_place_in
returns-then-occurs_at c = laws.found_here _ _ _ _ _ _ _ _ c.requires.0 c.requires.1 c.requires.2 c.if-words-at-2.false (items.equal-length _ _ _ _ _ _ _
    c.occurs_at.ensures c.if-occurs_at.true) (items.equal-bytes _ _ _ _ _ _ _ c.occurs_at.ensures c.if-occurs_at.true)

pub returns-else-occurs_at : goal.returns-else-occurs_at
unfolding fingerprint_in item_place_in
returns-else-occurs_at c = laws.other-bytes
    _ _ _ _ _ _ _ _ c.requires.0 c.requires.1 c.requires.2 (items.equal-not _ _ _ _ _ _ _ c.occurs_at.ensures c.if-occurs_at.false)
