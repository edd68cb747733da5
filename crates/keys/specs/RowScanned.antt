-- A part of a text, scanned for a row that matches.
use Rattle.std.specs.Prelude.{List, Bool, false, ◌≡◌, ℕ, ◌+◌, ◌-◌, ◌≤◌, ◌<◌, length, get_or, drop}
use Rattle.text.specs.Text.{substring}
use Rattle.text.specs.RowLaws.{trimmed}
use Rattle.row_filter.specs.RowAutomaton.{run_from, scan_bytes}
use Rattle.keys.specs.declared.key_state.KeyState.TheVariants.{Code}
use Rattle.keys.specs.Keys.{cut_count}
use Rattle.keys.specs.KeyStates.{cut_fits, is_done, key_automaton}

-- The row's bytes before the newline at `end` go up to r.
pub record BytesEnd (part : List ℕ) (from end r : ℕ) : Type 0 where
  pub low : from ≤ r
  pub high : r ≤ end
  pub bytes : trimmed (substring part from (end - from)) ≡ substring part from (r - from)

-- The byte of some cut is not in its range, if the cuts are at a place.
pub record Misfit (ranges part : List ℕ) (at : ℕ) : Type 0 where
  pub cut : ℕ
  pub below : cut < cut_count ranges
  pub out : cut_fits ranges cut (get_or part (at + cut) 0) ≡ false

pub record CutsFit (ranges part : List ℕ) (at : ℕ) (r : Bool) : Type 0 where
  pub misfit : r ≡ false → Misfit ranges part at

-- A row that is refused does not match where a newline ends it.
pub record MayMatch (ranges part : List ℕ) (from end : ℕ) (r : Bool) : Type 0 where
  pub fails : r ≡ false → is_done ranges (run_from (key_automaton ranges) (Code 0) (substring part from (end - from))) ≡ false

-- The bytes up to r are a row that does not match, or none.
pub record RowPassed (ranges part : List ℕ) (from r : ℕ) : Type 0 where
  pub low : from ≤ r
  pub high : r ≤ length part
  pub scans : from < r → (q : ℕ) → scan_bytes (key_automaton ranges) (drop r part) (Code 0) (q + 1) ≡ scan_bytes (key_automaton ranges) (drop from part) (Code 0) q
