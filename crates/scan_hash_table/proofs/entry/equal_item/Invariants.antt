use Rattle.scan_hash_table.specs.ItemsEntered.{Leads}
use Rattle.scan_hash_table.proofs.entry.equal_item.Given as goal

abbrev pub invariant-loop-e : goal.invariant-loop-e
invariant-loop-e l = Leads l.text l.out l.it l.words l.x l.e

abbrev pub decreases-loop-e : goal.decreases-loop-e
decreases-loop-e l = l.e
