use Prim.Native.Nat.{◌≤◌}
use lib.ListN.{length}
use mathlib.Core.Path.{◌≡◌}
use Rattle.byte_slices.specs.ByteSlices.{bytes_written}
use Rattle.query_access.proofs.short_copy.copy_short.Given as goal

abbrev pub invariant-loop-j : goal.invariant-loop-j
invariant-loop-j l = record {
  within : l.j ≤ l.n;
  same_length : length l.out ≡ length l.initial.out;
  written : l.out ≡ bytes_written l.initial.out l.to l.text l.from l.j;
}
