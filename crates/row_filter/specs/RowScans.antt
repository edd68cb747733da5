-- The scan of the code as the scan of the definitions.
use Rattle.std.specs.Prelude.{List, ◌≡◌, ℕ, ◌+◌, ◌≤◌, ◌<◌, length, drop}
use Rattle.row_filter.specs.RowAutomaton.{Automaton, Scan, found, on, scan_bytes}
use Rattle.row_filter.specs.declared.RowScan.{RowScan}
use Rattle.row_filter.specs.declared.RowScan.TheVariants as row
use Rattle.row_filter.specs.declared.ScanStep.{ScanStep}
use Rattle.row_filter.specs.declared.ScanStep.TheVariants as step

module _ {S : Type 0} where
  abbrev pub scan_of : RowScan S → Scan S
  scan_of (row.Found q) = found q
  scan_of (row.On state q) = on state q

  -- The scan from place i goes on as the one that is returned.
  abbrev pub IsStep : Automaton S → List ℕ → S → ℕ → ℕ → ScanStep S → Type 0
  IsStep m part state q i (step.Found n) = (q ≤ n) × (n ≤ q + 1) × (found n ≡ scan_bytes m (drop i part) state q)
  IsStep m part state q i (step.On f n p) =
      (i < p) × (p ≤ length part) × (q ≤ n) × (n ≤ q + 1)
      × (scan_bytes m (drop p part) f n ≡ scan_bytes m (drop i part) state q)
