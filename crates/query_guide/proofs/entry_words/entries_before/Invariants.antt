use mathlib.Core.Path.{◌≡◌}
use Prim.Native.Nat.{◌*◌, ◌/◌, ◌^◌, ◌≤◌}
use Rattle.query_guide.specs.Guides.{entries_before, listed_every}
use Rattle.query_guide.proofs.entry_words.entries_before.Given as goal

abbrev pub invariant-loop-c : goal.invariant-loop-c
invariant-loop-c l = (l.sum ≡ entries_before l.t l.c) × (l.sum ≤ l.c * (2 ^ 64 / listed_every))
