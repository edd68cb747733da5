-- Contracts of the steps of a search for the next selected row.
use Rattle.std.specs.Prelude.{List, Bool, true, cond, ◌≡◌, ◌⊎◌, ℕ, ◌+◌, ◌-◌, ◌≤◌, ◌<◌, drop, ltb, Option, Some, None, Result, Ok, Err}
use Rattle.text.specs.declared.TextPlace.{TextPlace}
use Rattle.text.specs.Text.{rows_of}
use Rattle.format.specs.Layout as at
use Rattle.format.specs.TreeReading.{text_of, check_result}
use Rattle.format.specs.Answers.{is_counted, number_of_byte, total}
use Rattle.query_access.specs.declared.read_by_header.TreeRange.{TreeRange}
use Rattle.query_access.specs.ReadByRuns.{ReadsOn}
use Rattle.row_filter.specs.RowAutomaton.{Automaton, SearchResult, at_row, nothing, scan_bytes, finish_scan}
use Rattle.refusals.specs.declared.Refusal.{Refusal}
use Rattle.refusals.specs.declared.Refusal.TheVariants.{PathBroken}
use Rattle.query_row_filter.specs.declared.NextRow.{NextRow}
use Rattle.query_row_filter.specs.declared.NextRow.TheVariants.{Row, Nothing}
use Rattle.query_row_filter.specs.declared.rows_after.RowsStart.{RowsStart}
use Rattle.query_row_filter.specs.declared.rows_after.RowsStart.TheVariants as begins
use Rattle.query_row_filter.specs.AllowedRows.{newline_refusal, AllowedAnswer}

-- The place is in the text, and where `ok` is 0 the rows after the mark begin there and the walk does not fail.
pub record FilterStartIs (t : List ℕ) (ok mark : ℕ) (r : Option TextPlace) : Type 0 where
  pub place-in : (p : TextPlace) → r ≡ Some p → p.0 ≤ at.text_length t
  pub place_is : (p : TextPlace) → r ≡ Some p → ok ≡ 0 → rows_of (drop p.0 (text_of t)) ≡ drop mark (rows_of (text_of t))
  pub broken : r ≡ None → ok ≡ 0 → ⊥

-- The rows after the mark begin at place p of a tree with this total of byte 10.
pub record StartFacts (t : List ℕ) (ok mark p newlines : ℕ) : Type 0 where
  pub counted : is_counted t 10 ≡ true
  pub total_is : newlines ≡ total t (number_of_byte t 10)
  pub mark_high : mark ≤ newlines
  pub mark_low : mark < at.text_length t
  pub place-in : p ≤ at.text_length t
  pub place_is : ok ≡ 0 → rows_of (drop p (text_of t)) ≡ drop mark (rows_of (text_of t))

-- The rows after the mark begin at some place, or the answer does not depend on the predicate.
pub record BeginIs (t : List ℕ) (ok mark : ℕ) (r : RowsStart) : Type 0 where
  pub begins_at : (p : TextPlace) (newlines : ℕ) → r ≡ begins.At p newlines → StartFacts t ok mark p.0 newlines
  pub answered : (s : Result NextRow Refusal) → r ≡ begins.Answered s → (selected : List ℕ → Bool) → AllowedAnswer t ok (newline_refusal t) selected mark s

-- A range of the tree's bytes that has the next bytes of the text from place p on; there is none only in a tree that the check refuses.
abbrev pub PartFrom : List ℕ → ℕ → Result TreeRange Refusal → Type 0
PartFrom t p (Ok part) = (ReadsOn t p part.from part.length) × (1 ≤ part.length)
PartFrom t p (Err e) = (e ≡ PathBroken) × (check_result t ≡ 0 → ⊥)

-- The answer names no row below q.
abbrev pub FromRow : ℕ → Result NextRow Refusal → Type 0
FromRow q (Ok (Row n)) = q ≤ n
FromRow q (Ok (Nothing n)) = q ≤ n + 1
FromRow q (Err e) = e ≡ PathBroken

-- The answer of a search.
abbrev pub answer_of : SearchResult → NextRow
answer_of (at_row q) = Row q
answer_of (nothing m) = Nothing m

-- The result where the text ends in row q.
abbrev pub end_result : Bool → Bool → ℕ → SearchResult
end_result selected empty q = cond selected (at_row q) (cond empty (nothing (q - 1)) (nothing q))

-- The answer of a search from place p, where row q begins: that of the text's scan from there; or 14, on a tree that the check refuses.
pub record SearchFrom {S : Type 0} (t : List ℕ) (m : Automaton S) (p q : ℕ) (r : Result NextRow Refusal) : Type 0 where
  pub settled : (r ≡ Ok (answer_of (finish_scan m (scan_bytes m (drop p (text_of t)) m.start q)))) ⊎ ((r ≡ Err PathBroken) × (check_result t ≡ 0 → ⊥))
  pub rows : FromRow q r

-- A row number above total + 1 becomes 14.
unfoldable pub limited : ℕ → Result NextRow Refusal → Result NextRow Refusal
limited newlines (Ok (Row q)) = cond (ltb (newlines + 1) q) (Err PathBroken) (Ok (Row q))
limited newlines (Ok (Nothing m)) = cond (ltb (newlines + 1) m) (Err PathBroken) (Ok (Nothing m))
limited newlines (Err e) = Err e
