use Rattle.std.proofs.Common.{◌≡◌}
use Rattle.byte_slices.specs.ByteSlices.{bytes_written}
use Rattle.byte_slices.proofs.copy.Given as goal

abbrev pub invariant-loop-i : goal.invariant-loop-i
invariant-loop-i l = l.out ≡ bytes_written l.initial.out l.to l.text l.from l.i
