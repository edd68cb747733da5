-- Theorems over the contract of any search for the next selected row, whatever the predicate: `AllowedAnswer` is that contract.
use mathlib.Core.List.{List, [], ◌∷◌}
use mathlib.Core.Bool.{Bool, true, false, cond}
use mathlib.Core.Path.{◌≡◌, refl, sym, ap, ◌∙◌}
use mathlib.Core.Logic.{◌⊎◌, inl, inr}
use Prim.Native.Nat.{ℕ, suc, ◌≤◌, ◌<◌}
use native.Mathlib.Omega.{arith}
use lib.ListN.{length}
use lib.Dec.{leb, eqb}
use borrow.Author.Tests.{leb-true, eqb-false, ne_eqb}
use Rattle.text.specs.ListLaws.{lt-or-ge}
use Rattle.text.specs.Text.{rows_of}
use Rattle.format.specs.TreeReading.{text_of, ask, header_result, check_result}
use Rattle.format.specs.LayoutLaws.{ask-test, ask-rest}
use Rattle.format.specs.AnswerLaws.{next-passes}
use Rattle.format.specs.Answers.{is_counted}
use Rattle.theory_counts.specs.RowsOfText.{rows-total}
use Rattle.row_filter.specs.SelectedRows.{NextRowOutcome, next_selected, outcome_at, next_outcome}
use Rattle.row_filter.specs.SelectedRowNumbers.{selected_rows}
use Rattle.row_filter.specs.SelectedRowLaws.{Next, no_more, next, next_of, Shows, shown-all, all_shown}
use Rattle.std.specs.Prelude.{Result, Ok, Err}
use Rattle.refusals.specs.declared.Refusal.{Refusal}
use Rattle.refusals.specs.declared.Refusal.TheVariants.{PathBroken}
use Rattle.refusals.specs.Refusals.{refusal_number, result_refusal}
use Rattle.refusals.specs.RefusalsLaws.{number-above, one-number}
use Rattle.query_row_filter.specs.declared.NextRow.{NextRow}
use Rattle.query_row_filter.specs.declared.NextRow.TheVariants.{Row, Nothing}
use Rattle.query_row_filter.specs.AllowedRows.{refused_at, newline_refusal, query_refusal, max_rows, FreeOutcome}
use Rattle.query_row_filter.specs.AllowedRows.{outcome_of, Numbered, AllowedAnswer, MarkMoved}

-- The outcome of a refusal determines the answer.
filter-refused-is : (mark : ℕ) (r : Result NextRow Refusal) (q : Refusal) → outcome_of mark r ≡ refused_at (refusal_number q) mark → r ≡ Err q
filter-refused-is mark (Ok (Row n)) q e = absurd (let z : ⊥ = omega (arith, ap (λ (s : NextRowOutcome). s.refusal) e, number-above q) in z)
filter-refused-is mark (Ok (Nothing m)) q e = absurd (let z : ⊥ = omega (arith, ap (λ (s : NextRowOutcome). s.refusal) e, number-above q) in z)
filter-refused-is mark (Err p) q e = ap Err (one-number p q (ap (λ (s : NextRowOutcome). s.refusal) e))

-- Two answers with the same outcome are the same.
same-next-row : (mark : ℕ) (x y : Result NextRow Refusal) → Numbered x → Numbered y → outcome_of mark x ≡ outcome_of mark y → x ≡ y
same-next-row mark (Ok (Row a)) (Ok (Row b)) k l e = ap (λ (n : ℕ). Ok (Row n)) (ap (λ (s : NextRowOutcome). s.row) e)
same-next-row mark (Ok (Row a)) (Ok (Nothing m)) k l e = absurd (let z : ⊥ = omega (arith, ap (λ (s : NextRowOutcome). s.row) e) in z)
same-next-row mark (Ok (Row a)) (Err n) k l e = absurd (let z : ⊥ = omega (arith, ap (λ (s : NextRowOutcome). s.refusal) e) in z)
same-next-row mark (Ok (Nothing m)) (Ok (Row b)) k l e = absurd (let z : ⊥ = omega (arith, ap (λ (s : NextRowOutcome). s.row) e) in z)
same-next-row mark (Ok (Nothing m)) (Ok (Nothing n)) k l e = ap (λ (n : ℕ). Ok (Nothing n)) (ap (λ (s : NextRowOutcome). s.mark) e)
same-next-row mark (Ok (Nothing m)) (Err n) k l e = absurd (let z : ⊥ = omega (arith, ap (λ (s : NextRowOutcome). s.refusal) e) in z)
same-next-row mark (Err n) (Ok (Row b)) k l e = absurd (let z : ⊥ = omega (arith, ap (λ (s : NextRowOutcome). s.refusal) e) in z)
same-next-row mark (Err n) (Ok (Nothing m)) k l e = absurd (let z : ⊥ = omega (arith, ap (λ (s : NextRowOutcome). s.refusal) e) in z)
same-next-row mark (Err n) (Err m) k l e = ap Err (one-number n m (ap (λ (s : NextRowOutcome). s.refusal) e))

-- Determined answers to the same search are equal.
pub one-next-row : (t : List ℕ) (refusal : ℕ) (selected : List ℕ → Bool) (mark ok other : ℕ) → ok ≡ 0 → other ≡ 0 → (x y : Result NextRow Refusal)
    → AllowedAnswer t ok refusal selected mark x → AllowedAnswer t other refusal selected mark y → x ≡ y
one-next-row t refusal selected mark ok other v w x y a b = same-next-row mark x y a.numbered b.numbered (go (lt-or-ge 0 refusal))
  where
    go : (0 < refusal) ⊎ (refusal ≤ 0) → outcome_of mark x ≡ outcome_of mark y
    go (inl l) = a.answers.asked l ∙ sym (b.answers.asked l)
    go (inr l) = let z : refusal ≡ 0 = omega arith in a.answers.accepted z v ∙ sym (b.answers.accepted z w)

-- On an accepted tree none leaves the mark or moves it to the number of rows, and nothing is refused.
module _ (q R mark : ℕ) where
  next_marks : (outcome_at q R mark).row ≡ 0 → (mark ≤ (outcome_at q R mark).mark) × (((outcome_at q R mark).mark ≡ mark) ⊎ ((outcome_at q R mark).mark ≡ R))
  unfolding outcome_at
  next_marks z = go (eqb q 0) refl (leb mark R) refl
    where
      expected : Bool → Bool → NextRowOutcome
      expected none low = cond none (record { refusal = 0; row = 0; mark = cond low R mark }) (record { refusal = 0; row = q; mark = q })

      is : (b c : Bool) → eqb q 0 ≡ b → leb mark R ≡ c → outcome_at q R mark ≡ expected b c
      is b c e f = rw (e, f)

      go : (b : Bool) → eqb q 0 ≡ b → (c : Bool)
          → leb mark R ≡ c → (mark ≤ (outcome_at q R mark).mark) × (((outcome_at q R mark).mark ≡ mark) ⊎ ((outcome_at q R mark).mark ≡ R))
      go true e true f = rw (is true true e f) (leb-true mark R f, inr refl)
      go true e false f = rw (is true false e f) (omega arith, inl refl)
      go false e c f = absurd (eqb-false q 0 e (sym (ap (λ (s : NextRowOutcome). s.row) (is false c e f)) ∙ z))

  next-only : (n : ℕ) → 1 ≤ n → refused_at n mark ≡ outcome_at q R mark → ⊥
  unfolding outcome_at
  next-only n low e = go (eqb q 0) refl
    where
      go : (b : Bool) → eqb q 0 ≡ b → ⊥
      go true f = let z : (outcome_at q R mark).refusal ≡ 0 = rw f in omega (arith, ap (λ (s : NextRowOutcome). s.refusal) e)
      go false f = let z : (outcome_at q R mark).refusal ≡ 0 = rw f in omega (arith, ap (λ (s : NextRowOutcome). s.refusal) e)

  -- The outcome determines the answer.
  next-answer : (r : Result NextRow Refusal) → Numbered r → outcome_of mark r ≡ outcome_at q R mark
      → r ≡ Ok (cond (eqb q 0) (Nothing (outcome_at q R mark).mark) (Row q))
  unfolding outcome_at
  next-answer r low s = go r low s (eqb q 0) refl
    where
      none : (b : Bool) → eqb q 0 ≡ b → b ≡ true → (outcome_at q R mark).row ≡ 0
      none b e f = rw (e ∙ f)

      one : (b : Bool) → eqb q 0 ≡ b → b ≡ false → (outcome_at q R mark).row ≡ q
      one b e f = rw (e ∙ f)

      go : (x : Result NextRow Refusal) → Numbered x
          → outcome_of mark x ≡ outcome_at q R mark → (b : Bool) → eqb q 0 ≡ b → x ≡ Ok (cond b (Nothing (outcome_at q R mark).mark) (Row q))
      go (Ok (Row n)) low s true e = absurd (let y : ⊥ = omega (arith, ap (λ (w : NextRowOutcome). w.row) s, none true e refl) in y)
      go (Ok (Row n)) low s false e = ap (λ (m : ℕ). Ok (Row m)) (ap (λ (w : NextRowOutcome). w.row) s ∙ one false e refl)
      go (Ok (Nothing m)) low s true e = ap (λ (n : ℕ). Ok (Nothing n)) (ap (λ (w : NextRowOutcome). w.mark) s)
      go (Ok (Nothing m)) low s false e = absurd (let y : ⊥ = omega (arith, ap (λ (w : NextRowOutcome). w.row) s, one false e refl, eqb-false q 0 e) in y)
      go (Err n) low s b e = absurd (next-only (refusal_number n) low s)

-- The number in an outcome is that of the result's refusal.
outcome-refusal : (mark : ℕ) (r : Result NextRow Refusal) → (outcome_of mark r).refusal ≡ result_refusal r
outcome-refusal mark (Ok (Row n)) = refl
outcome-refusal mark (Ok (Nothing n)) = refl
outcome-refusal mark (Err q) = refl

-- The questions before the walk: 5 to 7, the query's own, and 11.
module _ (t : List ℕ) (k : ℕ) (ok : Bool) where
  pub asked-unread : (q : ℕ) → header_result t ≡ suc q → query_refusal t k ok ≡ suc q
  unfolding query_refusal
  asked-unread q e = rw (e, ne_eqb (suc q) 0 (λ z. omega arith))

  pub asked-unread-by : (q : Refusal) → header_result t ≡ refusal_number q → query_refusal t k ok ≡ refusal_number q
  unfolding query_refusal
  asked-unread-by q e = rw (e, ne_eqb (refusal_number q) 0 (λ z. omega (arith, number-above q)))

  pub asked-bad : header_result t ≡ 0 → ok ≡ false → query_refusal t k ok ≡ k
  unfolding query_refusal
  asked-bad pass e = rw (pass, e)

  pub asked-uncounted : header_result t ≡ 0 → ok ≡ true → is_counted t 10 ≡ false → query_refusal t k ok ≡ 11
  unfolding query_refusal newline_refusal
  asked-uncounted pass e c = rw (pass, e, c)

  pub asked-all : header_result t ≡ 0 → ok ≡ true → is_counted t 10 ≡ true → query_refusal t k ok ≡ 0
  unfolding query_refusal newline_refusal
  asked-all pass e c = rw (pass, e, c)

pub asked-counted : (t : List ℕ) (k : ℕ) (ok : Bool) → query_refusal t (suc k) ok ≡ 0 → is_counted t 10 ≡ true
unfolding query_refusal newline_refusal
asked-counted t k ok h =
    let eleven = ask 11 (is_counted t 10) 0 in
    let a = next-passes (header_result t) (ask (suc k) ok eleven) h in
    ask-test 10 (is_counted t 10) 0 (ask-rest k ok eleven a.1)

-- `ok` is 0 if the outcome is determined.
module _ (t : List ℕ) (ok : ℕ) (sound : ok ≡ 0 → check_result t ≡ 0) (refusal : ℕ) (selected : List ℕ → Bool) where
  -- For any bytes.

  -- A refusal leaves the mark.
  pub refusal-leaves : (mark : ℕ) (n : Refusal) (after : ℕ) → MarkMoved t ok refusal selected mark (Err n) after → after ≡ mark
  refusal-leaves mark n after m = m.mark_is

  module _ (mark : ℕ) (r : Result NextRow Refusal) (a : AllowedAnswer t ok refusal selected mark r) where
    -- A question that refuses before the walk determines the answer: its number.
    pub refused-number : (q : ℕ) → refusal ≡ suc q → result_refusal r ≡ suc q
    refused-number q e = sym (outcome-refusal mark r) ∙ ap (λ (s : NextRowOutcome). s.refusal) (a.answers.asked (omega (arith, e))) ∙ e

    -- The same, for a refusal that has this number.
    pub refused-first : (q : Refusal) → refusal ≡ refusal_number q → r ≡ Err q
    refused-first q e = filter-refused-is mark r q (a.answers.asked (omega (arith, e, number-above q)) ∙ rw e)

    -- An answer that is no refusal passed every question before the walk.
    let_through : (outcome_of mark r).refusal ≡ 0 → refusal ≡ 0
    let_through z = go (lt-or-ge 0 refusal)
      where
        go : (0 < refusal) ⊎ (refusal ≤ 0) → refusal ≡ 0
        go (inl l) = absurd (let e : (outcome_of mark r).refusal ≡ refusal = ap (λ (s : NextRowOutcome). s.refusal) (a.answers.asked l) in
            let x : ⊥ = omega arith in x)
        go (inr g) = omega arith

  -- A determined outcome.
  module _ (v : ok ≡ 0) where
    abbrev rows : List (List ℕ)
    rows = rows_of (text_of t)

    settled : (mark : ℕ) (r : Result NextRow Refusal) → AllowedAnswer t ok refusal selected mark r → (outcome_of mark r).refusal ≡ 0
        → outcome_of mark r ≡ next_outcome selected rows mark
    settled mark r a z = a.answers.accepted (let_through mark r a z) v

    -- Where no question refuses: the next selected row; or none, with the mark of `next_outcome`.
    pub answer_is : (mark : ℕ) (r : Result NextRow Refusal) → AllowedAnswer t ok refusal selected mark r → refusal ≡ 0
        → r ≡ Ok (cond (eqb (next_selected selected rows mark) 0) (Nothing (next_outcome selected rows mark).mark) (Row (next_selected selected rows mark)))
    unfolding next_outcome
    answer_is mark r a z = next-answer (next_selected selected rows mark) (length rows) mark r a.numbered (a.answers.accepted z v)

    -- A returned row is after the mark and becomes the mark: so there are at most as many calls before none as rows.
    pub row-rises : (mark n after : ℕ) → MarkMoved t ok refusal selected mark (Ok (Row n)) after → (mark < n) × (n ≤ length rows) × (after ≡ n)
    row-rises mark n after m = go (next_of selected rows mark)
      where
        is : record { refusal = 0; row = n; mark = n } ≡ next_outcome selected rows mark
        is = settled mark (Ok (Row n)) m.answer refl

        go : Next selected rows mark → (mark < n) × (n ≤ length rows) × (after ≡ n)
        go (no_more f _) = absurd (let z : n ≡ 0 = ap (λ (s : NextRowOutcome). s.row) is ∙ f in let y : ⊥ = omega (arith, m.answer.numbered) in y)
        go (next k l j e _) =
            let z : n ≡ k = ap (λ (s : NextRowOutcome). s.row) (is ∙ e) in
            (omega arith, omega arith, m.mark_is)

    -- None is returned only if no selected row is left, and the mark is then that of `next_outcome`.
    pub none_moves : (mark m after : ℕ) → MarkMoved t ok refusal selected mark (Ok (Nothing m)) after
        → ((next_outcome selected rows mark).row ≡ 0) × (after ≡ (next_outcome selected rows mark).mark)
    none_moves mark m after k =
        let e = settled mark (Ok (Nothing m)) k.answer refl in
        (sym (ap (λ (s : NextRowOutcome). s.row) e), k.mark_is ∙ ap (λ (s : NextRowOutcome). s.mark) e)

    -- repeated calls with the same query, each from the mark that the one before left, return these rows, then none
    abbrev pub Calls : ℕ → List ℕ → Type 0
    Calls mark [] = (m : ℕ) × (after : ℕ) × MarkMoved t ok refusal selected mark (Ok (Nothing m)) after
    Calls mark (n ∷ ns) = (after : ℕ) × MarkMoved t ok refusal selected mark (Ok (Row n)) after × Calls after ns

    shows : (mark : ℕ) (ns : List ℕ) → Calls mark ns → Shows selected rows mark ns
    shows mark [] a = (none_moves mark a.0 a.1 a.2).0
    shows mark (n ∷ ns) a =
        let e = settled mark (Ok (Row n)) a.1.answer refl in
        (sym e, a.1.answer.numbered, rw a.1.mark_is at (shows a.0 ns a.2))

    -- repeated calls from mark 0 return exactly the selected rows
    pub all-called : (ns : List ℕ) → Calls 0 ns → ns ≡ selected_rows selected rows
    all-called ns a = shown-all selected rows ns (shows 0 ns a)

    -- Where no question refuses, calls that keep the contract do return all selected rows, then none.
    module _ (through : refusal ≡ 0) (call : (mark : ℕ) → mark ≤ length rows → (r : Result NextRow Refusal) × AllowedAnswer t ok refusal selected mark r) where
      answer-row : (mark n : ℕ) (r : Result NextRow Refusal) → AllowedAnswer t ok refusal selected mark r → 1 ≤ n
          → next_outcome selected rows mark ≡ record { refusal = 0; row = n; mark = n } → r ≡ Ok (Row n)
      answer-row mark n r a low e = go r a.numbered (a.answers.accepted through v ∙ e)
        where
          go : (x : Result NextRow Refusal) → Numbered x → outcome_of mark x ≡ record { refusal = 0; row = n; mark = n } → x ≡ Ok (Row n)
          go (Ok (Row k)) l s = ap (λ (m : ℕ). Ok (Row m)) (ap (λ (w : NextRowOutcome). w.row) s)
          go (Ok (Nothing k)) l s = absurd (let y : ⊥ = omega (arith, ap (λ (w : NextRowOutcome). w.row) s) in y)
          go (Err k) l s = absurd (let y : ⊥ = omega (arith, ap (λ (w : NextRowOutcome). w.refusal) s) in y)

      answer-none : (mark : ℕ) (r : Result NextRow Refusal) → AllowedAnswer t ok refusal selected mark r → (next_outcome selected rows mark).row ≡ 0
          → (m : ℕ) × (r ≡ Ok (Nothing m))
      unfolding next_outcome
      answer-none mark r a e = go r a.numbered (a.answers.accepted through v)
        where
          go : (x : Result NextRow Refusal) → Numbered x → outcome_of mark x ≡ next_outcome selected rows mark → (m : ℕ) × (x ≡ Ok (Nothing m))
          go (Ok (Row k)) l s = absurd (let y : ⊥ = omega (arith, ap (λ (w : NextRowOutcome). w.row) s) in y)
          go (Ok (Nothing k)) l s = (k, refl)
          go (Err k) l s = absurd (next-only (next_selected selected rows mark) (length rows) mark (refusal_number k) l s)

      asks : (mark : ℕ) (ns : List ℕ) → mark ≤ length rows → Shows selected rows mark ns → Calls mark ns
      asks mark [] high h =
          let a = call mark high in
          let e = answer-none mark a.0 a.1 h in
          (e.0, e.0, record { answer = rw e.1 at a.1; mark_is = refl })
      asks mark (n ∷ ns) high h =
          let a = call mark high in
          let e = answer-row mark n a.0 a.1 h.1 h.0 in
          let m : MarkMoved t ok refusal selected mark (Ok (Row n)) n = record { answer = rw e at a.1; mark_is = refl } in
          (n, m, asks n ns (row-rises mark n n m).1 h.2)

      pub comes-to-none : Calls 0 (selected_rows selected rows)
      comes-to-none = asks 0 (selected_rows selected rows) (omega arith) (all_shown selected rows)

  -- For any bytes: what holds of every answer, also of an unspecified one.
  module _ (Counted-of : refusal ≡ 0 → is_counted t 10 ≡ true) where
    -- A returned row is after the mark and at most total + 1 of byte 10.
    pub row-after : (mark n : ℕ) → AllowedAnswer t ok refusal selected mark (Ok (Row n)) → (mark < n) × (n ≤ max_rows t)
    row-after mark n a = go (lt-or-ge 0 ok)
      where
        through : refusal ≡ 0
        through = let_through mark (Ok (Row n)) a refl

        free : FreeOutcome t selected mark (record { refusal = 0; row = n; mark = n }) → (mark < n) × (n ≤ max_rows t)
        free (inl e) = absurd (let z : ⊥ = omega (arith, ap (λ (s : NextRowOutcome). s.refusal) e) in z)
        free (inr (inl h)) = absurd (let z : ⊥ = omega (arith, a.numbered, h.1) in z)
        free (inr (inr h)) = (h.1, h.2)

        go : (0 < ok) ⊎ (ok ≤ 0) → (mark < n) × (n ≤ max_rows t)
        go (inl low) = free (a.answers.free through (λ v. omega arith))
        go (inr high) =
            let v : ok ≡ 0 = omega arith in
            let w = row-rises v mark n n (record { answer = a; mark_is = refl }) in
            (w.0, omega (arith, w.1, (rows-total t (sound v) (Counted-of through)).1))

    -- None leaves the mark, or moves it forward up to that number.
    pub none_after : (mark m : ℕ) → AllowedAnswer t ok refusal selected mark (Ok (Nothing m)) → (mark ≤ m) × ((m ≡ mark) ⊎ (m ≤ max_rows t))
    unfolding next_outcome
    none_after mark m a = go (lt-or-ge 0 ok)
      where
        through : refusal ≡ 0
        through = let_through mark (Ok (Nothing m)) a refl

        R : ℕ
        R = length (rows_of (text_of t))

        expected : NextRowOutcome
        expected = next_outcome selected (rows_of (text_of t)) mark

        free : FreeOutcome t selected mark (record { refusal = 0; row = 0; mark = m }) → (mark ≤ m) × ((m ≡ mark) ⊎ (m ≤ max_rows t))
        free (inl e) = absurd (let z : ⊥ = omega (arith, ap (λ (s : NextRowOutcome). s.refusal) e) in z)
        free (inr (inl h)) = (h.2, h.3)
        free (inr (inr h)) = absurd (let z : ⊥ = omega (arith, h.1) in z)

        moved : (v : ok ≡ 0) → m ≡ expected.mark → (mark ≤ expected.mark) × ((expected.mark ≡ mark) ⊎ (expected.mark ≡ R))
            → (mark ≤ m) × ((m ≡ mark) ⊎ (m ≤ max_rows t))
        moved v e (l, inl s) = (omega arith, inl (e ∙ s))
        moved v e (l, inr s) = (omega arith, inr (omega (arith, (rows-total t (sound v) (Counted-of through)).1)))

        go : (0 < ok) ⊎ (ok ≤ 0) → (mark ≤ m) × ((m ≡ mark) ⊎ (m ≤ max_rows t))
        go (inl low) = free (a.answers.free through (λ v. omega arith))
        go (inr high) =
            let v : ok ≡ 0 = omega arith in
            let w = none_moves v mark m m (record { answer = a; mark_is = refl }) in
            moved v w.1 (next_marks (next_selected selected (rows_of (text_of t)) mark) R mark w.0)

  -- A refusal is that of the questions before the walk; or 14, if the outcome is not determined.
  pub refusal_is : (mark : ℕ) (n : Refusal) → AllowedAnswer t ok refusal selected mark (Err n)
      → (refusal_number n ≡ refusal) ⊎ ((n ≡ PathBroken) × (ok ≡ 0 → ⊥))
  unfolding next_outcome
  refusal_is mark n a = go (lt-or-ge 0 refusal) (lt-or-ge 0 ok)
    where
      free : FreeOutcome t selected mark (refused_at (refusal_number n) mark) → n ≡ PathBroken
      free (inl e) = one-number n PathBroken (ap (λ (s : NextRowOutcome). s.refusal) e)
      free (inr (inl h)) = absurd (let z : ⊥ = omega (arith, a.numbered, h.0) in z)
      free (inr (inr h)) = absurd (let z : ⊥ = omega (arith, a.numbered, h.0) in z)

      go : (0 < refusal) ⊎ (refusal ≤ 0) → (0 < ok) ⊎ (ok ≤ 0) → (refusal_number n ≡ refusal) ⊎ ((n ≡ PathBroken) × (ok ≡ 0 → ⊥))
      go (inl l) w = inl (ap (λ (s : NextRowOutcome). s.refusal) (a.answers.asked l))
      go (inr z) (inl w) = inr (free (a.answers.free (omega arith) (λ v. omega arith)), λ v. omega arith)
      go (inr z) (inr w) =
          let expected = a.answers.accepted (omega arith) (omega arith) in
          absurd (next-only (next_selected selected (rows_of (text_of t)) mark) (length (rows_of (text_of t))) mark (refusal_number n) a.numbered expected)
