use Rattle.scan_hash_table.proofs.LookupLaws as laws
use Rattle.scan_hash_table.proofs.lookup.traverse_chain.Given as goal

abbrev pub invariant-loop-e : goal.invariant-loop-e
invariant-loop-e l = laws.Visiting l.text l.out l.it l.initial.words l.w.fingerprint l.w.start.0 l.w.length l.words l.e

abbrev pub decreases-loop-e : goal.decreases-loop-e
decreases-loop-e l = l.e
