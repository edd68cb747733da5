-- A deterministic automaton that reads the bytes of a row one at a time, and the scan of a text with it for an accepted row.
use Rattle.std.specs.Prelude.{List, [], ◌∷◌, Bool, false, true, cond, ◌≡◌, ℕ, ◌+◌, ◌-◌, ◌≤◌, eqb}
use Rattle.text.specs.RowLaws.{trimmed}

-- Start: the state before a row's first byte. step: one more byte. at-end: the row is accepted if the text ends here. at-newline: the row is accepted if a
-- byte 10 ends it here, and a byte 13 before that byte is not part of the row. no_byte: no byte of the row has been read.
pub record Automaton (S : Type 0) : Type 0 where
  pub start : S
  pub step : S → ℕ → S
  pub at_end : S → Bool
  pub at_newline : S → Bool
  pub no_byte : S → Bool

-- `found`: the first accepted row that ends in the scanned bytes. `on`: none; the state and the number of the row in which these bytes end.
pub data Scan (S : Type 0) : Type 0 where
  found : ℕ → Scan S
  on : S → ℕ → Scan S

-- The result of a search to the end of the text: a row; or none, with the number of rows.
pub data SearchResult : Type 0 where
  at_row : ℕ → SearchResult
  nothing : ℕ → SearchResult

module _ {S : Type 0} where
  -- Continues a scan that has found no row.
  abbrev pub resume_scan : (S → ℕ → Scan S) → Scan S → Scan S
  resume_scan go (found q) = found q
  resume_scan go (on s q) = go s q

  -- The scan is in a row from q to q + more.
  abbrev pub RowBetween : ℕ → ℕ → Scan S → Type 0
  RowBetween q more (found n) = (q ≤ n) × (n ≤ q + more)
  RowBetween q more (on s n) = (q ≤ n) × (n ≤ q + more)

module _ {S : Type 0} (m : Automaton S) where
  -- The state after some bytes of a row.
  unfoldable pub run_from : S → List ℕ → S
  run_from s [] = s
  run_from s (x ∷ xs) = run_from (m.step s x) xs

  -- Scans one byte of row q.
  unfoldable pub scan_byte : S → ℕ → ℕ → Scan S
  scan_byte s q x = cond (eqb 10 x) (cond (m.at_newline s) (found q) (on m.start (q + 1))) (on (m.step s x) q)

  -- Scans bytes, from a state in row q.
  unfoldable pub scan_bytes : List ℕ → S → ℕ → Scan S
  scan_bytes [] s q = on s q
  scan_bytes (x ∷ xs) s q = resume_scan (scan_bytes xs) (scan_byte s q x)

  -- The text ends in row q; a row without a byte does not count.
  unfoldable pub at_end_of_text : S → ℕ → SearchResult
  at_end_of_text s q = cond (m.at_end s) (at_row q) (cond (m.no_byte s) (nothing (q - 1)) (nothing q))

  unfoldable pub finish_scan : Scan S → SearchResult
  finish_scan (found q) = at_row q
  finish_scan (on s q) = at_end_of_text s q

-- The automaton accepts exactly the rows that satisfy the predicate.
pub record Recognizes {S : Type 0} (m : Automaton S) (selected : List ℕ → Bool) : Type 0 where
  pub at_end_is : (row : List ℕ) → m.at_end (run_from m m.start row) ≡ selected row
  pub at_newline_is : (row : List ℕ) → m.at_newline (run_from m m.start row) ≡ selected (trimmed row)
  pub no_byte_first : m.no_byte m.start ≡ true
  pub no_byte_then : (x : ℕ) (xs : List ℕ) → m.no_byte (run_from m m.start (x ∷ xs)) ≡ false
  pub empty_rejected : selected [] ≡ false
