use Prim.Native.Nat.{◌+◌, ◌%◌, ◌<◌}
use mathlib.Core.Path.{◌≡◌}
use lib.ListN.{take}
use Rattle.scan_rolling_hash.specs.Fingerprints.{fingerprint}
use Rattle.scan_rolling_hash.proofs.finish.Given as goal

abbrev pub invariant-loop-x : goal.invariant-loop-x
invariant-loop-x l = (l.g < 8589934592) × (l.g % 2147483647 ≡ fingerprint l.seed (take (l.from + l.x-index) l.s))
