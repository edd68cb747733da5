-- Row with a guide, a row's length and the number of rows: theorems over what the calls promise.
-- docs/FORMAT.md: "Guides", "Figures and sizes".
use mathlib.Core.List.{List, ◌++◌}
use mathlib.Core.Bool.{true}
use mathlib.Core.Path.{◌≡◌, sym, ap, ◌∙◌}
use mathlib.Core.Logic.{◌⊎◌, inl, inr}
use Prim.Native.Nat.{ℕ, ◌-◌, ◌≤◌, ◌<◌}
use native.Mathlib.Omega.{arith}
use contract.Lifetimes.{Lfts}
use denote.Ref.{Bor, MutBor}
use lib.ListN.{length, drop}
use borrow.Author.Tests.{eq-eqb, ne_eqb, lt-ltb, le-ltb}
use Rattle.text.specs.ListLaws.{lt-or-ge}
use Rattle.text.specs.Text.{rows_of, row_of}
use Rattle.text.specs.RowLaws.{ends_open}
use Rattle.text.proofs.RowTheorems.{rows-count}
use Rattle.format.specs.Layout as at
use Rattle.format.specs.TreeReading.{text_of, check_result}
use Rattle.format.specs.CheckResultLaws.{accepted-header, accepted-links}
use Rattle.format.specs.Answers.{Answer, replied, is_counted, row_refusal}
use Rattle.theory_paths.specs.OneText.{text-length}
use Rattle.theory_paths.specs.Theorems as paths
use Rattle.theory_counts.specs.Theorems as counts
use Rattle.theory_counts.specs.RowsOfText.{row-lets}
use Rattle.query_guide.specs.Guides.{guide_refusal}
use Rattle.query_guide.proofs.GuideList.{guide-checked}
use Rattle.std.specs.Prelude.{Result, Ok, Err}
use Rattle.refusals.specs.declared.Refusal.{Refusal}
use Rattle.refusals.specs.RefusalsLaws.{number-above, one-number}
use Rattle.query_rows.specs.RowAnswers.{row_reply, IsRowAnswer, row_count_refusal, last_open, row_count_answer, row_length_reply, row_count_reply}
use Rattle.query_rows.proofs.row_length.Reads as length-reads
use Rattle.query_rows.proofs.row_count.Reads as count-reads
use Rattle.query_rows.proofs.row.Reads as row_reads
use Rattle.query_rows.proofs.row_guided.Reads as guided-reads

-- r is an answer that the contract of the call allows with these arguments, with the buffer left as `after`
abbrev pub RowGuided : (κs : Lfts 3) → (t guide : Bor (List ℕ)) → (q : ℕ) → (buffer after : MutBor (List ℕ)) → Result ℕ Refusal → Type 0
RowGuided κs t guide q buffer after r = guided-reads.Post κs (t, (guide, (q, (buffer, tt)))) r (t, (guide, (q, (after, tt))))

abbrev Row : (κs : Lfts 2) → Bor (List ℕ) → (q : ℕ) → (buffer after : MutBor (List ℕ)) → Result ℕ Refusal → Type 0
Row κs t q buffer after r = row_reads.Post κs (t, (q, (buffer, tt))) r (t, (q, (after, tt)))

-- Two answers with the same number and length are the same.
same-copied : (x y : Result ℕ Refusal) → (replied (row_reply x)).number ≡ (replied (row_reply y)).number
    → (replied (row_reply x)).value ≡ (replied (row_reply y)).value → x ≡ y
same-copied (Ok m) (Ok n) s z = ap Ok z
same-copied (Ok m) (Err n) s z = absurd (let y : ⊥ = omega (arith, number-above n) in y)
same-copied (Err m) (Ok n) s z = absurd (let y : ⊥ = omega (arith, number-above m) in y)
same-copied (Err m) (Err n) s z = ap Err (one-number m n s)

-- On an accepted tree row has one answer.
module _ (t : List ℕ) (v : check_result t ≡ 0)
    (q : ℕ) (buffer : List ℕ) (x y : Result ℕ Refusal) (after other : List ℕ) (a : IsRowAnswer t q buffer x after) (b : IsRowAnswer t q buffer y other) where
  one_row : (x ≡ y) × (after ≡ other)
  one_row = go (lt-or-ge 0 (row_refusal t q)) (lt-or-ge (length buffer) (length (row_of (text_of t) q)))
    where
      both : (n m : ℕ) (l : List ℕ) → ((replied (row_reply x)).number ≡ n)
          × ((replied (row_reply x)).value ≡ m) × (after ≡ l) → ((replied (row_reply y)).number ≡ n) × ((replied (row_reply y)).value ≡ m) × (other ≡ l)
          → (x ≡ y) × (after ≡ other)
      both n m l c d = (same-copied x y (c.0 ∙ sym d.0) (c.1 ∙ sym d.1), c.2 ∙ sym d.2)

      go : (0 < row_refusal t q) ⊎ (row_refusal t q ≤ 0)
          → (length buffer < length (row_of (text_of t) q)) ⊎ (length (row_of (text_of t) q) ≤ length buffer) → (x ≡ y) × (after ≡ other)
      go (inl l) w = both (row_refusal t q) 0 buffer (a.answers.asked l) (b.answers.asked l)
      go (inr l) (inl w) = let z : row_refusal t q ≡ 0 = omega arith in both 13 0 buffer (a.answers.short z v w) (b.answers.short z v w)
      go (inr l) (inr w) =
          let z : row_refusal t q ≡ 0 = omega arith in
          let c = a.answers.accepted z v w in
          let d = b.answers.accepted z v w in
          let n = length (row_of (text_of t) q) in
          both 0 n (row_of (text_of t) q ++ drop n buffer) (c.0, c.1, c.2 ∙ ap (λ (i : ℕ). row_of (text_of t) q ++ drop i buffer) c.1)
          (d.0, d.1, d.2 ∙ ap (λ (i : ℕ). row_of (text_of t) q ++ drop i buffer) d.1)

-- If the tree and the guide are accepted, row with a guide returns what row returns.
pub guided-as-row : (κs : Lfts 3) (t guide : Bor (List ℕ)) (q : ℕ) (buffer after : MutBor (List ℕ)) (r : Result ℕ Refusal)
    → RowGuided κs t guide q buffer after r
    → guide_refusal t.now guide.now ≡ 0 → (κ : Lfts 2) (left : MutBor (List ℕ)) (s : Result ℕ Refusal) → Row κ t q buffer left s
    → (r ≡ s) × (after.now ≡ left.now)
guided-as-row κs t guide q buffer after r a g κ left s b =
    let v = guide-checked t.now guide.now g in
    let z = a.answers in
    one_row t.now v q buffer.now r s after.now left.now
    (record {
      answers = record { asked = z.asked; short = λ n w. z.short n g; accepted = λ n w. z.accepted n g; free = λ n w. absurd (w v) };
      numbered = a.numbered;
    }) b

-- The length of a row, and the number of rows, on accepted trees.

abbrev pub LengthOf : (κs : Lfts 1) → Bor (List ℕ) → (q : ℕ) → Result ℕ Refusal → Type 0
LengthOf κs t q r = length-reads.Post κs (t, (q, tt)) r (t, (q, tt))

abbrev pub CountOf : (κs : Lfts 1) → Bor (List ℕ) → Result ℕ Refusal → Type 0
CountOf κs t r = count-reads.Post κs (t, tt) r (t, tt)

bytes-are : (r : Result ℕ Refusal) (n : ℕ) → (replied (row_length_reply r)).number ≡ 0 → (replied (row_length_reply r)).value ≡ n → r ≡ Ok n
bytes-are (Ok m) n e f = ap Ok f
bytes-are (Err m) n e f = absurd (let z : ⊥ = omega (arith, number-above m) in z)

rows_are : (r : Result ℕ Refusal) (n : ℕ) → replied (row_count_reply r) ≡ record { number = 0; value = n; entered = 0 } → r ≡ Ok n
rows_are (Ok m) n e = ap Ok (ap (λ (s : Answer). s.value) e)
rows_are (Err m) n e = absurd (let z : ⊥ = omega (arith, ap (λ (s : Answer). s.number) e, number-above m) in z)

rows-say : (t : List ℕ) → check_result t ≡ 0 → is_counted t 10 ≡ true → row_count_answer t ≡ record { number = 0; value = length (rows_of (text_of t)); entered = 0 }
unfolding row_count_answer row_count_refusal last_open ends_open
rows-say t v counted = go (lt-or-ge 0 (at.text_length t))
  where
    go : (0 < at.text_length t) ⊎ (at.text_length t ≤ 0) → row_count_answer t ≡ record { number = 0; value = length (rows_of (text_of t)); entered = 0 }
    go (inl some) =
        let w = paths.byte-of-text t (accepted-header t v) (accepted-links t v) (at.text_length t - 1) (omega arith) in
        rw (
          accepted-header t v,
          counted,
          ne_eqb (at.text_length t) 0 (λ e. omega arith),
          w.2,
          rows-count (text_of t),
          counts.total-of-text t v 10 counted,
          text-length t,
          lt-ltb 0 (at.text_length t) some,
        )
    go (inr none) =
        let e : at.text_length t ≡ 0 = omega arith in
        rw (
          accepted-header t v,
          counted,
          eq-eqb (at.text_length t) 0 e,
          rows-count (text_of t),
          counts.total-of-text t v 10 counted,
          text-length t,
          le-ltb 0 (at.text_length t) none,
        )

module _ (κs : Lfts 1) (t : Bor (List ℕ)) (v : check_result t.now ≡ 0) where
  -- The number of rows is that of the text's rows.
  pub rows-of-text : is_counted t.now 10 ≡ true → (r : Result ℕ Refusal) → CountOf κs t r → r ≡ Ok (length (rows_of (text_of t.now)))
  rows-of-text counted r a = rows_are r (length (rows_of (text_of t.now))) (a.answers ∙ rows-say t.now v counted)

  module _ (q : ℕ) where
    -- Each row has a length.
    pub length-of-text : is_counted t.now 10 ≡ true → 1 ≤ q → q ≤ length (rows_of (text_of t.now)) → (r : Result ℕ Refusal) → LengthOf κs t q r
        → r ≡ Ok (length (row_of (text_of t.now) q))
    length-of-text counted low high r a =
        let z = a.answers.accepted (row-lets t.now v counted q low high) v in
        bytes-are r (length (row_of (text_of t.now) q)) z.0 z.1

    -- A buffer of that length is enough for row, which is then not refused with 13.
    pub length-enough : (n : ℕ) → LengthOf κs t q (Ok n) → (κ : Lfts 2) (buffer after : MutBor (List ℕ)) (r : Result ℕ Refusal) → Row κ t q buffer after r
        → n ≤ length buffer.now → (r ≡ Ok n) × (after.now ≡ row_of (text_of t.now) q ++ drop n buffer.now)
    length-enough n a κ buffer after r b room = go (lt-or-ge 0 (row_refusal t.now q))
      where
        go : (0 < row_refusal t.now q) ⊎ (row_refusal t.now q ≤ 0) → (r ≡ Ok n) × (after.now ≡ row_of (text_of t.now) q ++ drop n buffer.now)
        go (inl l) = absurd (let z : ⊥ = omega (arith, (a.answers.asked l).0) in z)
        go (inr l) =
            let z : row_refusal t.now q ≡ 0 = omega arith in
            let size_is = (a.answers.accepted z v).1 in
            let c = b.answers.accepted z v (omega arith) in
            let all : (replied (row_reply r)).value ≡ n = c.1 ∙ sym size_is in
            (same-copied r (Ok n) c.0 all, rw all at c.2)
