use Prim.Native.Nat.{◌+◌}
use mathlib.Core.Path.{◌≡◌}
use Rattle.build_by_scan.proofs.ScannedLevelsLaws as levels
use Rattle.build_by_scan.proofs.scanned_levels.put_levels.Given as goal

abbrev pub invariant-loop : goal.invariant-loop
invariant-loop l = record {
  scanned : levels.ScanReached l.fn.first.settings l.counted l.text l.initial.out l.out l.level l.windows;
  number_is : l.level.number + 1 ≡ l.counter;
}
