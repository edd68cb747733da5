use Rattle.std.proofs.Common.{◌≡◌, ℕ, ◌<◌, ◌≤◌, ◌*◌, length, drop, true}
use Rattle.std.specs.Slice.Iter.{chunks_exact_rest, chunks_exact_size}
use Rattle.keys.proofs.RowKeyStates.{range_right}
use Rattle.keys.proofs.ranges.are_ranges.Given as goal

abbrev pub invariant-loop-range : goal.invariant-loop-range
invariant-loop-range l = record {
  size : chunks_exact_size l.range-iterator ≡ 2;
  rest : chunks_exact_rest l.range-iterator ≡ drop (2 * length l.yielded) l.ranges;
  passed : 2 * length l.yielded ≤ length l.ranges;
  right : (k : ℕ) → k < length l.yielded → range_right l.ranges k ≡ true;
}
