use Prim.Native.Nat.{◌≤◌}
use mathlib.Core.Bool.{true}
use mathlib.Core.Path.{◌≡◌}
use Rattle.format.specs.TreeReading.{width_at, block_right}
use Rattle.text.specs.Text.{all_below, sum_below}
use Rattle.check_links.proofs.level_right.Given as goal

abbrev pub invariant-loop-i : goal.invariant-loop-i
invariant-loop-i l = record {
  room : l.passed ≤ l.v.room;
  sum : l.passed ≡ sum_below l.i (width_at l.t l.v.number);
  checked : all_below l.i (block_right l.t l.v.number) ≡ true;
}
