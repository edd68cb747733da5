use native.Mathlib.Omega.{arith}
use Rattle.scan_hash_table.specs.ChainHeads.{link_of}
use Rattle.scan_hash_table.specs.Entries.{next_in, head_in}
use Rattle.scan_hash_table.proofs.ItemLaws as items
use Rattle.scan_hash_table.proofs.EntryLaws as laws
use Rattle.scan_hash_table.proofs.entry.equal_item.Goals as goal

pub bucket-requires : goal.bucket-requires
unfolding next_in link_of head_in
bucket-requires c = (c.requires.0.laid.heads_low, c.requires.2)

pub overflow_add-e : goal.overflow_add-e
unfolding next_in link_of head_in
overflow_add-e c = omega (arith, c.requires.0.laid.room, c.bucket.ensures.1)

pub offset_bounds-words-it : goal.offset_bounds-words-it
unfolding next_in link_of head_in
offset_bounds-words-it c = omega (arith, c.requires.0.laid.room, c.bucket.ensures.1)

pub bounds-words-it : goal.bounds-words-it
unfolding next_in link_of head_in
bounds-words-it c = omega (arith, c.requires.0.laid.room, c.bucket.ensures.1)

pub loop-e-init : goal.loop-e-init
unfolding next_in link_of head_in
loop-e-init c = laws.head-leads _ _ _ _ _ c.requires.0 _ c.bucket.ensures.1

pub bounds-words-at : goal.bounds-words-at
unfolding next_in link_of head_in
bounds-words-at c = omega (arith, c.requires.0.laid.room, laws.item-here _ _ _ _ _ c.requires.0 _ c.loop-e-test.true c.loop-e.invariant)

pub occurs_at-requires : goal.occurs_at-requires
unfolding next_in link_of head_in
occurs_at-requires c = (c.requires.0.laid.placed, laws.item-here _ _ _ _ _ c.requires.0 _ c.loop-e-test.true c.loop-e.invariant, c.requires.1)

pub returns-then-occurs_at : goal.returns-then-occurs_at
unfolding next_in link_of head_in
returns-then-occurs_at c = laws.equal-found _ _ _ _ _ c.requires.0 _ c.loop-e-test.true c.loop-e.invariant _ _ (items.equal-length _ _ _ _ _ _ _
    c.occurs_at.ensures c.if-occurs_at.true) (items.equal-bytes _ _ _ _ _ _ _ c.occurs_at.ensures c.if-occurs_at.true)

pub bounds-words-at-in-loop-e : goal.bounds-words-at-in-loop-e
unfolding next_in link_of head_in
bounds-words-at-in-loop-e c = omega (arith, c.requires.0.laid.room, laws.item-here _ _ _ _ _ c.requires.0 _ c.loop-e-test.true c.loop-e.invariant)

pub loop-e-smaller : goal.loop-e-smaller
unfolding next_in link_of head_in
loop-e-smaller c = laws.next-falls _ _ _ _ _ c.requires.0 _ c.loop-e-test.true c.loop-e.invariant

pub loop-e-preserved : goal.loop-e-preserved
unfolding next_in link_of head_in
loop-e-preserved c = laws.next-leads _ _ _ _ _ c.requires.0 _ c.loop-e-test.true c.loop-e.invariant

pub returns : goal.returns
unfolding next_in link_of head_in
returns c = laws.equal-none _ _ _ _ _ c.requires.0 _ _
