-- The answer of next_match by its refusal and row, and the mark that show moves (docs/FORMAT.md, "Keys").
use Rattle.std.specs.Prelude.{List, ℕ, Result}
use Rattle.format.specs.TreeReading.{check_result}
use Rattle.row_filter.specs.SelectedRows.{NextRowOutcome}
use Rattle.keys.specs.Keys.{ranges_ok, matches}
use Rattle.refusals.specs.declared.Refusal.{Refusal}
use Rattle.query_row_filter.specs.declared.NextRow.{NextRow}
use Rattle.query_row_filter.specs.AllowedRows.{query_refusal, AllowedOutcome, AllowedAnswer, MarkMoved}

-- As numbers.
abbrev pub MatchOutcome : List ℕ → List ℕ → ℕ → NextRowOutcome → Type 0
MatchOutcome t ranges mark s = AllowedOutcome t (check_result t) (query_refusal t 19 (ranges_ok ranges)) (matches ranges) mark s

-- As the call's result.
abbrev pub IsMatchAnswer : List ℕ → List ℕ → ℕ → Result NextRow Refusal → Type 0
IsMatchAnswer t ranges mark r = AllowedAnswer t (check_result t) (query_refusal t 19 (ranges_ok ranges)) (matches ranges) mark r

-- The answer of show from the caller's mark, and the mark afterwards.
abbrev pub Moved : List ℕ → List ℕ → ℕ → Result NextRow Refusal → ℕ → Type 0
Moved t ranges before r after = MarkMoved t (check_result t) (query_refusal t 19 (ranges_ok ranges)) (matches ranges) before r after
