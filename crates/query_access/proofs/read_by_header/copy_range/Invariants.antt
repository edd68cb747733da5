use mathlib.Core.Path.{◌≡◌}
use lib.ListN.{length}
use Rattle.byte_slices.specs.ByteSlices.{bytes_written}
use Rattle.query_access.proofs.read_by_header.copy_range.Given as goal

abbrev pub invariant-loop-k : goal.invariant-loop-k
invariant-loop-k l = record {
  same_length : length l.buffer ≡ length l.initial.buffer;
  written : l.buffer ≡ bytes_written l.initial.buffer l.to l.t l.run.from l.k;
}
