-- Where a row starts, and the newline that ends it.
use Rattle.std.specs.Prelude.{List, ◌≡◌, ℕ, ◌-◌, ◌≤◌, ◌<◌, get_or, Option, Some, None, Result, Ok, Err}
use Rattle.text.specs.CountLaws.{Nth}
use Rattle.text.specs.RowLaws.{row_from, between, trimmed}
use Rattle.text.specs.declared.TextPlace.{TextPlace}
use Rattle.format.specs.Layout as at
use Rattle.format.specs.TreeReading.{text_of, check_result}
use Rattle.format.specs.Answers.{find_refusal}
use Rattle.query_access.specs.declared.read_by_header.LeafRun.{LeafRun}
use Rattle.query_access.specs.ReadByRuns.{ReadsFrom}
use Rattle.refusals.specs.declared.Refusal.{Refusal}
use Rattle.refusals.specs.Refusals.{refusal_number}
use Rattle.query_rows.specs.RowSpans.{Refuses}

-- The first newline of the text from place p on is at e, after the byte `before`.
pub record EndsRow (t : List ℕ) (p e before : ℕ) : Type 0 where
  pub past : p ≤ e
  pub first : Nth 10 1 (text_of t) p (e - p)
  pub before-is : p < e → before ≡ get_or (text_of t) (e - 1) 0

pub record NewlineIs (t : List ℕ) (p : ℕ) (r : Option (TextPlace × ℕ × LeafRun)) : Type 0 where
  pub found : (e : TextPlace) (before : ℕ) (run : LeafRun) → r ≡ Some (e, before, run) → (EndsRow t p e.0 before) × (ReadsFrom t p run)
  pub missing : r ≡ None → check_result t ≡ 0 → (o : ℕ) → Nth 10 1 (text_of t) p o → ⊥

-- Row q starts here, if a newline ends it; settled where `ok` is 0.
pub record StartIs (t : List ℕ) (ok q : ℕ) (r : Result TextPlace Refusal) : Type 0 where
  pub refused : (e : Refusal) → r ≡ Err e → Refuses t ok (find_refusal t 10 q) (trimmed (between (text_of t) q)) (refusal_number e)
  pub asked : (p : TextPlace) → r ≡ Ok p → find_refusal t 10 q ≡ 0
  pub within : (p : TextPlace) → r ≡ Ok p → p.0 ≤ at.text_length t
  pub accepted : (p : TextPlace) → r ≡ Ok p → ok ≡ 0 → p.0 ≡ row_from (text_of t) q
