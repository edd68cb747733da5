use native.Mathlib.Omega.{arith}
use Rattle.scan_hash_table.specs.Entries.{next_in}
use Rattle.scan_hash_table.proofs.LookupLaws as laws
use Rattle.scan_hash_table.proofs.lookup.traverse_chain.Goals as goal

pub loop-e-init : goal.loop-e-init
unfolding next_in
loop-e-init c = laws.visiting-first _ _ _ _ _ _ _ _ c.requires.0 c.requires.1

pub compare_item-requires : goal.compare_item-requires
unfolding next_in
compare_item-requires c = (c.loop-e.invariant.asks, laws.item_in _ _ _ _ _ _ _ _ _ c.loop-e.invariant c.loop-e-test.true, laws.item-listed _ _ _ _ _ _ _ _ _ c.loop-e.invariant c.loop-e-test.true)

pub bounds-words-x : goal.bounds-words-x
unfolding next_in
bounds-words-x c = omega
    (arith, c.loop-e.invariant.asks.laid.room, c.compare_item.ensures.searched.same_length, laws.item_in _ _ _ _ _ _ _ _ _ c.loop-e.invariant c.loop-e-test.true)

pub loop-e-smaller : goal.loop-e-smaller
unfolding next_in
loop-e-smaller c = laws.next-falls _ _ _ _ _ _ _ _ _ c.loop-e.invariant c.loop-e-test.true _ c.compare_item.ensures

pub loop-e-preserved : goal.loop-e-preserved
unfolding next_in
loop-e-preserved c = laws.visiting-next _ _ _ _ _ _ _ _ _ c.loop-e.invariant c.loop-e-test.true _ c.compare_item.ensures

pub shape_of-words : goal.shape_of-words
unfolding next_in
shape_of-words c = c.loop-e.invariant.searched.same_length

pub returns : goal.returns
unfolding next_in
returns c = laws.traversed-all _ _ _ _ _ _ _ _ _ c.loop-e.invariant c.loop-e-test.false
