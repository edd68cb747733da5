-- The answer of a search for the next selected row, question by question.
use mathlib.Core.List.{List}
use mathlib.Core.Bool.{Bool, true, false, cond}
use mathlib.Core.Path.{◌≡◌, refl, sym, ap, ◌∙◌}
use mathlib.Core.Logic.{◌⊎◌, inl, inr}
use Prim.Native.Nat.{ℕ, ◌+◌, ◌-◌, ◌≤◌, ◌<◌}
use native.Mathlib.Omega.{arith}
use lib.ListN.{length, drop, length-drop, drop_of_length-le}
use lib.Dec.{ltb, leb, eqb}
use borrow.Author.Tests.{ltb-false, le-ltb, le-leb, leb-true, eqb-false, ne_eqb}
use Rattle.text.specs.declared.TextPlace.{TextPlace}
use Rattle.text.specs.Text.{rows_of}
use Rattle.text.proofs.RowTheorems.{rows_few}
use Rattle.format.specs.Layout as at
use Rattle.format.specs.TreeReading.{text_of, header_result, check_result}
use Rattle.format.specs.Answers.{is_counted, number_of_byte, total}
use Rattle.theory_paths.specs.OneText.{text-length}
use Rattle.theory_counts.specs.RowsOfText.{rows-total}
use Rattle.std.specs.Prelude.{Result, Ok, Err}
use Rattle.refusals.specs.RefusalsLaws.{number-above}
use Rattle.layout.specs.declared.header.Header.{Header}
use Rattle.layout.specs.Header.{header_answer}
use Rattle.layout.specs.HeaderFields.{header_refused}
use Rattle.row_filter.specs.SelectedRows.{NextRowOutcome, first_selected, next_selected, outcome_at, next_outcome}
use Rattle.row_filter.specs.SelectedRowLaws.{Next, no_more, next, next_of}
use Rattle.row_filter.specs.RowAutomaton.{Automaton, Recognizes, SearchResult, at_row, nothing, scan_bytes, finish_scan}
use Rattle.row_filter.specs.RowAutomatonLaws.{result, scan-rows}
use Rattle.refusals.specs.declared.Refusal.{Refusal}
use Rattle.refusals.specs.declared.Refusal.TheVariants.{ByteNotCounted, PathBroken}
use Rattle.refusals.specs.Refusals.{refusal_number}
use Rattle.query_row_filter.specs.declared.NextRow.{NextRow}
use Rattle.query_row_filter.specs.declared.NextRow.TheVariants.{Row, Nothing}
use Rattle.query_row_filter.specs.declared.rows_after.RowsStart.TheVariants as begins
use Rattle.query_row_filter.specs.AllowedRows.{newline_refusal, query_refusal, FoundFrom, FreeOutcome, outcome_of, Numbered, AllowedAnswer}
use Rattle.query_row_filter.specs.RowsAfter.{FromRow, answer_of, SearchFrom, StartFacts, BeginIs, limited}

-- A refusal before the walk.
pub refuses : (t : List ℕ) (ok : ℕ) (selected : List ℕ → Bool) (mark refusal : ℕ) (n : Refusal) → refusal ≡ refusal_number n
    → AllowedAnswer t ok refusal selected mark (Err n)
refuses t ok selected mark refusal n e = record {
  answers = record { asked = λ l. rw e; accepted = λ z v. absurd (none z); free = λ z v. absurd (none z) };
  numbered = number-above n;
}
  where
    none : refusal ≡ 0 → ⊥
    none z = omega (arith, number-above n)

-- Questions 5 to 7, the query's own, and 11.
module _ (t : List ℕ) (settled : ℕ) (selected : List ℕ → Bool) (mark k : ℕ) (ok : Bool) where
  pub ask-unread : (x : Result Header Refusal) → x ≡ header_answer t → (q : Refusal) → x ≡ Err q
      → AllowedAnswer t settled (query_refusal t k ok) selected mark (Err q)
  unfolding query_refusal
  ask-unread x is q e =
      let z = header_refused t x is q e in
      refuses t settled selected mark _ q (rw (ne_eqb (header_result t) 0 (λ y. omega (arith, z.1))) (z.1 ∙ sym z.2))

  module _ (pass : header_result t ≡ 0) where
    pub ask-bad : (q : Refusal) → refusal_number q ≡ k → ok ≡ false → AllowedAnswer t settled (query_refusal t k ok) selected mark (Err q)
    unfolding query_refusal
    ask-bad q is e = refuses t settled selected mark _ q (rw (pass, e, is))

    pub ask-good : ok ≡ true → (r : Result NextRow Refusal) → AllowedAnswer t settled (newline_refusal t) selected mark r
        → AllowedAnswer t settled (query_refusal t k ok) selected mark r
    unfolding query_refusal
    ask-good e r a = let z : query_refusal t k ok ≡ newline_refusal t = rw (pass, e) in rw z a

module _ (t : List ℕ) (ok mark : ℕ) where
  -- 11: byte 10 is not counted
  pub newline-11 : (selected : List ℕ → Bool) → is_counted t 10 ≡ false → AllowedAnswer t ok (newline_refusal t) selected mark (Err ByteNotCounted)
  unfolding newline_refusal
  newline-11 selected e = refuses t ok selected mark _ ByteNotCounted (rw e)

  module _ (counted : is_counted t 10 ≡ true) (selected : List ℕ → Bool) where
    asked : newline_refusal t ≡ 0
    unfolding newline_refusal
    asked = rw counted

    settles : (r : Result NextRow Refusal) → (ok ≡ 0 → outcome_of mark r ≡ next_outcome selected (rows_of (text_of t)) mark)
        → FreeOutcome t selected mark (outcome_of mark r) → Numbered r → AllowedAnswer t ok (newline_refusal t) selected mark r
    settles r a f n = record {
      answers = record { asked = λ l. absurd (let x : ⊥ = omega (arith, asked) in x); accepted = λ z v. a v; free = λ z v. f };
      numbered = n;
    }

    -- A broken path.
    pub newline-14 : (ok ≡ 0 → ⊥) → AllowedAnswer t ok (newline_refusal t) selected mark (Err PathBroken)
    newline-14 never = settles (Err PathBroken) (λ v. absurd (never v)) (inl refl) (omega arith)

    -- A mark at or above the number of rows stays.
    stays : (rows : ℕ) → rows ≤ mark → cond (leb mark rows) rows mark ≡ mark
    stays rows h = by (leb mark rows) refl
      where
        by : (b : Bool) → leb mark rows ≡ b → cond b rows mark ≡ mark
        by true e = omega (arith, leb-true mark rows e)
        by false e = refl

    newline-stays : (ok ≡ 0 → length (rows_of (text_of t)) ≤ mark) → AllowedAnswer t ok (newline_refusal t) selected mark (Ok (Nothing mark))
    unfolding next_outcome outcome_at next_selected first_selected
    newline-stays few = settles (Ok (Nothing mark))
        (λ v. rw (drop_of_length-le (rows_of (text_of t)) (few v), stays (length (rows_of (text_of t))) (few v)))
        (inr (inl (refl, refl, omega arith, inl refl))) tt

    pub few-total : (ok ≡ 0 → check_result t ≡ 0) → total t (number_of_byte t 10) < mark
        → AllowedAnswer t ok (newline_refusal t) selected mark (Ok (Nothing mark))
    few-total sound h = newline-stays (λ v. omega (arith, (rows-total t (sound v) counted).1))

    pub few_bytes : at.text_length t ≤ mark → AllowedAnswer t ok (newline_refusal t) selected mark (Ok (Nothing mark))
    few_bytes h = newline-stays (λ v. omega (arith, rows_few (text_of t), text-length t))

  -- The contract of `begin`.
  pub begin-answered : (s : Result NextRow Refusal) → ((selected : List ℕ → Bool) → AllowedAnswer t ok (newline_refusal t) selected mark s)
      → BeginIs t ok mark (begins.Answered s)
  begin-answered s a = record {
    begins_at = λ p newlines e. absurd (let z : ◌≡◌ {A = ℕ} 0 1 = cc in omega arith);
    answered = λ r e selected. (let z : s ≡ r = cc in rw (← z) (a selected));
  }

  pub begin-at : (p : TextPlace) (newlines : ℕ) → StartFacts t ok mark p.0 newlines → BeginIs t ok mark (begins.At p newlines)
  begin-at p newlines b = record {
    begins_at = λ q n e. (let z : p ≡ q = cc in let y : newlines ≡ n = cc in rw (← z, ← y) b);
    answered = λ r e selected. absurd (let z : ◌≡◌ {A = ℕ} 0 1 = cc in omega arith);
  }

-- The rows after the mark, scanned from where they begin.
module _ {S : Type 0} (m : Automaton S) (selected : List ℕ → Bool) (reads : Recognizes m selected)
    (t : List ℕ) (ok mark p newlines : ℕ) (sound : ok ≡ 0 → check_result t ≡ 0)
    (b : StartFacts t ok mark p newlines) (r : Result NextRow Refusal) (s : SearchFrom t m p (mark + 1) r) where
  abbrev rows : List (List ℕ)
  rows = drop mark (rows_of (text_of t))

  -- If the outcome is determined, the scan ends at a selected row or at the text's end.
  right : ok ≡ 0 → r ≡ Ok (answer_of (result selected (mark + 1) rows))
  right v = by s.settled
    where
      by : (r ≡ Ok (answer_of (finish_scan m (scan_bytes m (drop p (text_of t)) m.start (mark + 1)))))
          ⊎ ((r ≡ Err PathBroken) × (check_result t ≡ 0 → ⊥)) → r ≡ Ok (answer_of (result selected (mark + 1) rows))
      by (inl e) =
          e ∙ ap (λ (x : SearchResult). Ok (answer_of x))
          (scan-rows m selected reads (drop p (text_of t)) (mark + 1) (omega arith) ∙ ap (result selected (mark + 1)) (b.place_is v))
      by (inr e) = absurd (e.1 (sound v))

  -- A row is found from p on.
  row_first : (q first n : ℕ) (c : Bool) → ◌≡◌ {A = Result NextRow Refusal} (Ok (Row q)) (Ok (answer_of (cond c (nothing n) (at_row first)))) → q ≡ first
  row_first q first n true e = absurd (let z : ◌≡◌ {A = ℕ} 0 1 = cc in omega arith)
  row_first q first n false e = cc

  found_from : (q : ℕ) → Ok (Row q) ≡ r → FoundFrom t selected mark q
  found_from q e = record { start = p; start-in = b.place-in; row_is = by s.settled }
    where
      by : (r ≡ Ok (answer_of (finish_scan m (scan_bytes m (drop p (text_of t)) m.start (mark + 1))))) ⊎ ((r ≡ Err PathBroken) × (check_result t ≡ 0 → ⊥))
          → q ≡ first_selected selected (mark + 1) (rows_of (drop p (text_of t)))
      by (inl z) =
          row_first q _ _ (eqb (first_selected selected (mark + 1) (rows_of (drop p (text_of t)))) 0)
          (e ∙ z ∙ ap (λ (x : SearchResult). Ok (answer_of x)) (scan-rows m selected reads (drop p (text_of t)) (mark + 1) (omega arith)))
      by (inr z) = absurd (let y : ◌≡◌ {A = Result NextRow Refusal} (Ok (Row q)) (Err PathBroken) = e ∙ z.0 in let x : ◌≡◌ {A = ℕ} 0 1 = cc in omega arith)

  free_of : (x : Result NextRow Refusal) → x ≡ r → FromRow (mark + 1) x → FreeOutcome t selected mark (outcome_of mark (limited newlines x))
  unfolding limited
  free_of (Ok (Row q)) is h = by (ltb (newlines + 1) q) refl
    where
      by : (c : Bool) → ltb (newlines + 1) q ≡ c → FreeOutcome t selected mark (outcome_of mark (cond c (Err PathBroken) (Ok (Row q))))
      by true e = inl refl
      by false e = inr (inr (refl, omega arith, omega (arith, ltb-false (newlines + 1) q e, b.total_is), refl, found_from q is))
  free_of (Ok (Nothing k)) is h = by (ltb (newlines + 1) k) refl
    where
      by : (c : Bool) → ltb (newlines + 1) k ≡ c → FreeOutcome t selected mark (outcome_of mark (cond c (Err PathBroken) (Ok (Nothing k))))
      by true e = inl refl
      by false e = inr (inl (refl, refl, omega arith, inr (omega (arith, ltb-false (newlines + 1) k e, b.total_is))))
  free_of (Err n) is h = inl (rw h)

  numbers : (x : Result NextRow Refusal) → FromRow (mark + 1) x → Numbered (limited newlines x)
  unfolding limited
  numbers (Ok (Row q)) h = by (ltb (newlines + 1) q)
    where
      by : (c : Bool) → Numbered (cond c (Err PathBroken) (Ok (Row q)))
      by true = omega arith
      by false = omega arith
  numbers (Ok (Nothing k)) h = by (ltb (newlines + 1) k)
    where
      by : (c : Bool) → Numbered (cond c (Err PathBroken) (Ok (Nothing k)))
      by true = omega arith
      by false = tt
  numbers (Err n) h = number-above n

  -- If the outcome is determined.
  small : eqb (first_selected selected (mark + 1) (drop mark (rows_of (text_of t)))) 0 ≡ false
      → ok ≡ 0 → Next selected (rows_of (text_of t)) mark → first_selected selected (mark + 1) (drop mark (rows_of (text_of t))) ≤ newlines + 1
  unfolding next_outcome outcome_at next_selected
  small e v (no_more f _) = absurd (eqb-false (first_selected selected (mark + 1) (drop mark (rows_of (text_of t)))) 0 e (rw e at f))
  small e v (next n l k is _) =
      let z : (next_outcome selected (rows_of (text_of t)) mark).row ≡ first_selected selected (mark + 1) (drop mark (rows_of (text_of t))) = rw e in
      let y : (next_outcome selected (rows_of (text_of t)) mark).row ≡ n = ap (λ (x : NextRowOutcome). x.row) is in
      omega (arith, (rows-total t (sound v) b.counted).1, b.total_is)

  shown-is : ok ≡ 0 → outcome_of mark (limited newlines (Ok (answer_of (result selected (mark + 1) rows)))) ≡ next_outcome selected (rows_of (text_of t)) mark
  unfolding next_outcome outcome_at next_selected limited
  shown-is v = by (eqb (first_selected selected (mark + 1) (drop mark (rows_of (text_of t)))) 0) refl
    where
      by : (c : Bool) → eqb (first_selected selected (mark + 1) (drop mark (rows_of (text_of t)))) 0 ≡ c
          → outcome_of mark (limited newlines (Ok (answer_of (result selected (mark + 1) rows)))) ≡ next_outcome selected (rows_of (text_of t)) mark
      by true e =
          let R = length (rows_of (text_of t)) in
          let low : mark ≤ R = omega (arith, (rows-total t (sound v) b.counted).0, b.mark_high, b.total_is) in
          let k : mark + 1 - 1 + length (drop mark (rows_of (text_of t))) ≡ R = rw (length-drop mark (rows_of (text_of t))) (omega arith) in
          rw (e, k, le-ltb (newlines + 1) R (omega (arith, (rows-total t (sound v) b.counted).1, b.total_is)), le-leb mark R low)
      by false e =
          let low = small e v (next_of selected (rows_of (text_of t)) mark) in
          rw (e, le-ltb (newlines + 1) (first_selected selected (mark + 1) (drop mark (rows_of (text_of t)))) low)

  pub answer-found : AllowedAnswer t ok (newline_refusal t) selected mark (limited newlines r)
  answer-found =
      settles t ok mark b.counted selected (limited newlines r)
      (λ v. ap (λ (x : Result NextRow Refusal). outcome_of mark (limited newlines x)) (right v) ∙ shown-is v)
      (free_of r refl s.rows) (numbers r s.rows)
