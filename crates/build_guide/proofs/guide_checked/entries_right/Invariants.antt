use mathlib.Core.Path.{◌≡◌}
use Prim.Native.Nat.{ℕ, ◌+◌, ◌*◌, ◌≤◌, ◌<◌}
use lib.ListN.{get_or}
use Rattle.format.specs.Layout.{word_at}
use Rattle.format.specs.Layout as at
use Rattle.query_guide.specs.Guides.{guide_of, listed_every}
use Rattle.build_guide.proofs.guide_checked.entries_right.Given as goal

abbrev pub invariant-loop-e : goal.invariant-loop-e
invariant-loop-e l = record {
  low : l.e < l.count → (l.block < at.level_count l.t 0) × (at.before l.t 0 l.block l.number < listed_every * l.e + 1);
  right : (i : ℕ) → l.place ≤ i → i < l.place + l.e → word_at l.guide (4 * i) ≡ get_or (guide_of l.t) i 0;
}
