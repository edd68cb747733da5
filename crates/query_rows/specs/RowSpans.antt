-- The condition that determines a row, the answer of copying it, and its bounds.
use Rattle.std.specs.Prelude.{List, Bool, cond, ◌≡◌, ℕ, ◌+◌, ◌≤◌, ◌<◌, Result, Ok, Err}
use Rattle.text.specs.Text.{substring}
use Rattle.format.specs.Layout as at
use Rattle.format.specs.TreeReading.{text_of, check_result}
use Rattle.format.specs.Answers.{Is, copy_answer}
use Rattle.text.specs.declared.TextPlace.{TextPlace}
use Rattle.query_access.specs.declared.read_by_header.LeafRun.{LeafRun}
use Rattle.query_access.specs.ReadByRuns.{ReadsFrom}
use Rattle.query_guide.specs.Guides.{guide_refusal}
use Rattle.refusals.specs.declared.Refusal.{Refusal}
use Rattle.refusals.specs.Refusals.{refusal_number}
use Rattle.query_rows.specs.RowAnswers.{row_reply}

-- The number that settles a row: the guide's, or the check's where there is none.
unfoldable pub settled_by : List ℕ → List ℕ → Bool → ℕ
settled_by t guide guided = cond guided (guide_refusal t guide) (check_result t)

-- The answer of copying a row into a buffer of `room` bytes: what the paths of its places give.
abbrev pub IsRowCopy : (t : List ℕ) (p len room : ℕ) → Result ℕ Refusal → Type 0
IsRowCopy t p len room = Is row_reply (copy_answer t p len room)

-- The edges of a row: `number` is that of the questions before the walk, `row` what the row is where `ok` is 0; it has at most `most` bytes.
module _ (t : List ℕ) (ok number : ℕ) (row : List ℕ) where
  -- No bounds: refused with n, the number of a question before the walk, or free.
  pub record Refuses (n : ℕ) : Type 0 where
    pub low : 1 ≤ n
    pub asked : 0 < number → n ≡ number
    pub accepted : number ≡ 0 → ok ≡ 0 → ⊥
    pub free : number ≡ 0 → n ≡ 14

  -- The bounds: these bytes of the text.
  pub record Spans (most start len : ℕ) (run : LeafRun) : Type 0 where
    pub asked : number ≡ 0
    pub within : start + len ≤ at.text_length t
    pub short : len ≤ most
    pub accepted : ok ≡ 0 → substring (text_of t) start len ≡ row
    pub reads : ReadsFrom t start run

  pub record EdgesOf (most : ℕ) (r : Result (TextPlace × ℕ × LeafRun) Refusal) : Type 0 where
    pub refused : (e : Refusal) → r ≡ Err e → Refuses (refusal_number e)
    pub spans : (start : TextPlace) (len : ℕ) (run : LeafRun) → r ≡ Ok (start, len, run) → Spans most start.0 len run
