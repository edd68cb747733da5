-- The scan of a part of a text, step by step.
use Rattle.std.specs.Prelude.{List, ◌≡◌, ℕ, ◌+◌, ◌≤◌, ◌<◌, length, get_or, drop}
use Rattle.std.proofs.Common.{◌∙◌, arith}
use Rattle.row_filter.specs.RowAutomaton.{Automaton, found, on, RowBetween, scan_byte, scan_bytes}
use Rattle.row_filter.specs.RowAutomatonLaws.{Scanning, scan-on, scan-found, on-next, found-next}
use Rattle.row_filter.specs.declared.RowScan.{RowScan}
use Rattle.row_filter.specs.declared.RowScan.TheVariants as row
use Rattle.row_filter.specs.declared.ScanStep.{ScanStep}
use Rattle.row_filter.specs.declared.ScanStep.TheVariants as step
use Rattle.row_filter.specs.RowScans.{scan_of, IsStep}

module _ {S : Type 0} (m : Automaton S) (part : List ℕ) (first : S) (row₀ i : ℕ) (s : S) (q : ℕ) (k : Scanning m part first row₀ i s q) (h : i < length part)
    (x : ScanStep S) (x-is : IsStep m part s q i x) where
  -- The step ends an accepted row.
  pub step-found : (n : ℕ) → x ≡ step.Found n → (found n ≡ scan_bytes m part first row₀) × RowBetween {S = S} row₀ (length part) (found n)
  step-found n e =
      let y : IsStep m part s q i (step.Found n) = rw e at x-is in
      (y.2 ∙ k.same, (omega (arith, y.0, k.low), omega (arith, y.1, k.high)))

  -- The step leads to a state.
  pub step-on : (f : S) (n p : ℕ) → x ≡ step.On f n p → (i < p) × Scanning m part first row₀ p f n
  step-on f n p e =
      let y : IsStep m part s q i (step.On f n p) = rw e at x-is in
      (y.0, record { within = y.1; low = omega (arith, y.2, k.low); high = omega (arith, y.0, y.3, k.high); same = y.4 ∙ k.same })

-- One byte as a step.
module _ {S : Type 0} (m : Automaton S) (part : List ℕ) (s : S) (q i : ℕ) (h : i < length part) (x : RowScan S)
    (x-is : scan_of x ≡ scan_byte m s q (get_or part i 0)) where
  pub byte-ends : (n : ℕ) → x ≡ row.Found n → IsStep m part s q i (step.Found n)
  byte-ends n e =
      let f : found n ≡ scan_byte m s q (get_or part i 0) = rw e at x-is in
      let b = found-next m s q (get_or part i 0) n f in
      (b.0, b.1, scan-found m part i h s q n f)

  pub byte-leads : (f : S) (n : ℕ) → x ≡ row.On f n → IsStep m part s q i (step.On f n (i + 1))
  byte-leads f n e =
      let g : on f n ≡ scan_byte m s q (get_or part i 0) = rw e at x-is in
      let b = on-next m s q (get_or part i 0) f n g in
      (omega arith, omega arith, b.0, b.1, scan-on m part i h s q f n g)

-- A step, and bytes after it that change nothing.
pub step-passed : {S : Type 0} (m : Automaton S) (part : List ℕ) (s : S) (q i : ℕ) (f : S) (n p r : ℕ)
    → IsStep m part s q i (step.On f n p) → p ≤ r → r ≤ length part → scan_bytes m (drop r part) f n ≡ scan_bytes m (drop p part) f n
    → IsStep m part s q i (step.On f n r)
step-passed m part s q i f n p r y low high e = (omega (arith, y.0), high, y.2, y.3, e ∙ y.4)
