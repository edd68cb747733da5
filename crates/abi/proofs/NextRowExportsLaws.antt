-- The answer of a search for the next selected row, as numbers.
use Rattle.std.specs.Prelude.{Result, Err}
use Rattle.refusals.specs.declared.Refusal.{Refusal}
use Rattle.refusals.specs.Refusals.{refusal_number}
use mathlib.Core.Path.{◌≡◌}
use Prim.Native.Nat.{ℕ}
use Rattle.query_row_filter.specs.declared.NextRow.{NextRow}
use Rattle.query_row_filter.specs.AllowedRows.{refused_at, outcome_of}

-- A refusal keeps the mark.
pub next-row-refused : (mark : ℕ) (q : Refusal) (r : Result NextRow Refusal) → r ≡ Err q → refused_at (refusal_number q) mark ≡ outcome_of mark r
next-row-refused mark q r e = rw e
