use mathlib.Core.Path.{◌≡◌}
use Prim.Native.Nat.{ℕ, ◌*◌, ◌<◌}
use lib.ListN.{get_or}
use Rattle.format.specs.Layout.{word_at}
use Rattle.query_guide.specs.Guides.{entries_before, guide_of}
use Rattle.build_guide.proofs.guide_checked.right_by.Given as goal

abbrev pub invariant-loop-c : goal.invariant-loop-c
invariant-loop-c l = record {
  place_is : l.place ≡ entries_before l.t l.c;
  right : (i : ℕ) → i < l.place → word_at l.guide (4 * i) ≡ get_or (guide_of l.t) i 0;
}
