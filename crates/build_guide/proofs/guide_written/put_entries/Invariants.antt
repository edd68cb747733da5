use Prim.Native.Nat.{◌+◌, ◌*◌, ◌<◌}
use Rattle.format.specs.Layout as at
use Rattle.build_guide.specs.EntriesWritten.{Puts}
use Rattle.query_guide.specs.Guides.{listed_every}
use Rattle.build_guide.proofs.guide_written.put_entries.Given as goal

abbrev pub invariant-loop-e : goal.invariant-loop-e
invariant-loop-e l = record {
  low : l.e < l.count → (l.block < at.level_count l.t 0) × (at.before l.t 0 l.block l.number < listed_every * l.e + 1);
  puts : Puts l.t l.initial.table l.table l.place (l.place + l.e);
}
