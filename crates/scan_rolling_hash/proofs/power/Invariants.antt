use Prim.Native.Nat.{◌%◌, ◌^◌}
use mathlib.Core.Path.{◌≡◌}
use Rattle.scan_rolling_hash.specs.Fingerprints.{base_of}
use Rattle.scan_rolling_hash.proofs.power.Given as goal

abbrev pub invariant-loop : goal.invariant-loop
invariant-loop l = l.w ≡ base_of l.seed ^ l.counter % 2147483647
