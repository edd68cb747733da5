-- The rows of an accepted tree are those of its text: the refusals of row before its walk.
use Rattle.std.specs.Prelude.{List, Bool, true, false, cond, ◌&&◌, ◌≡◌, ◌⊎◌, ℕ, ◌+◌, ◌-◌, ◌≤◌, ◌<◌, length, leb}
use Rattle.std.proofs.Common.{sym, ap, ◌∙◌, inl, inr, arith}
use borrow.Author.Tests.{leb-true, lt-ltb}
use Rattle.text.specs.ListLaws.{bool_cases, bool_clash, and_left, and_right, lt-or-ge}
use Rattle.text.specs.Text.{count_in, rows_of}
use Rattle.text.specs.RowLaws.{ends_open}
use Rattle.text.proofs.RowTheorems.{rows-count}
use Rattle.format.specs.Layout as at
use Rattle.format.specs.TreeReading.{text_of, ask, check_result, header_result}
use Rattle.format.specs.CheckResultLaws.{accepted-header, accepted-links}
use Rattle.format.specs.Answers.{byte_answer, is_counted, number_of_byte, total, find_refusal, last_row_refusal, is_unterminated_row, row_refusal}
use Rattle.format.specs.FindAnswerLaws.{select-lets}
use Rattle.format.specs.RowRefusalLaws.{asks-last, asks-lets, row-number-last, row-number-plain}
use Rattle.theory_paths.specs.OneText.{text-length}
use Rattle.theory_paths.specs.Theorems as paths
use Rattle.theory_counts.specs.Theorems as counts

-- The refusal of find for a counted byte if its total is below j.
twelve : (t : List ℕ) (byte j : ℕ) → header_result t ≡ 0 → is_counted t byte ≡ true → (1 ≤ j → j ≤ total t (number_of_byte t byte) → ⊥) → find_refusal t byte j ≡ 12
unfolding find_refusal
twelve t byte j pass counted none = rw (pass, counted, go (bool_cases (leb 1 j && leb j (total t (number_of_byte t byte)))))
  where
    go : ((leb 1 j && leb j (total t (number_of_byte t byte))) ≡ true) ⊎ ((leb 1 j && leb j (total t (number_of_byte t byte))) ≡ false)
        → (leb 1 j && leb j (total t (number_of_byte t byte))) ≡ false
    go (inl h) = absurd (none (leb-true 1 j (and_left (leb 1 j) (leb j (total t (number_of_byte t byte))) h))
        (leb-true j (total t (number_of_byte t byte)) (and_right (leb 1 j) (leb j (total t (number_of_byte t byte))) h)))
    go (inr h) = h

module _ (t : List ℕ) (v : check_result t ≡ 0) (counted : is_counted t 10 ≡ true) where
  abbrev T : List ℕ
  T = text_of t

  pass : header_result t ≡ 0
  pass = accepted-header t v

  all-is : total t (number_of_byte t 10) ≡ count_in 10 T
  all-is = counts.total-of-text t v 10 counted

  added-few : (y : Bool) → cond y 1 0 ≤ 1
  added-few true = omega arith
  added-few false = omega arith

  -- The number of rows is the total, or one more.
  pub rows-total : (total t (number_of_byte t 10) ≤ length (rows_of T)) × (length (rows_of T) ≤ total t (number_of_byte t 10) + 1)
  rows-total =
      let e = rows-count T in
      (omega (arith, all-is, e), omega (arith, all-is, e, added-few (ends_open T)))

  -- The last byte of a text that has one.
  last_is : 0 < at.text_length t → last_row_refusal (byte_answer t (at.text_length t - 1)) ≡ ask 12 (ends_open T) 0
  unfolding ends_open
  last_is some =
      let w = paths.byte-of-text t pass (accepted-links t v) (at.text_length t - 1) (omega arith) in
      rw (w.2, text-length t, lt-ltb 0 (at.text_length t) some)

  module _ (q : ℕ) where
    -- Where the last byte is read.
    asked-last : is_unterminated_row t q ≡ true → (q ≡ count_in 10 T + 1) × (row_refusal t q ≡ ask 12 (ends_open T) 0)
    asked-last h =
        let a = asks-last t q h in
        (a.number ∙ ap (λ (n : ℕ). n + 1) all-is, row-number-last t q h ∙ last_is a.some_byte)

    -- If q is not the total plus one, the row after the last byte 10 is not meant, or the text is empty.
    not_last : is_unterminated_row t q ≡ false → q ≡ count_in 10 T + 1 → at.text_length t ≡ 0
    not_last h e = go (lt-or-ge 0 (at.text_length t))
      where
        go : (0 < at.text_length t) ⊎ (at.text_length t ≤ 0) → at.text_length t ≡ 0
        go (inl some) = bool_clash (is_unterminated_row t q)
            (asks-lets t q (record { pass = pass; counted = counted; some_byte = some; number = e ∙ ap (λ (n : ℕ). n + 1) (sym all-is) })) h
        go (inr none) = omega arith

    -- The empty text has no row to add.
    closed : at.text_length t ≡ 0 → ends_open T ≡ false
    unfolding ends_open
    closed z = rw (text-length t, z)

    -- Row q is one of the text's.
    pub row-lets : 1 ≤ q → q ≤ length (rows_of T) → row_refusal t q ≡ 0
    row-lets low high = go (bool_cases (is_unterminated_row t q)) (bool_cases (ends_open T))
      where
        go : (is_unterminated_row t q ≡ true) ⊎ (is_unterminated_row t q ≡ false) → (ends_open T ≡ true) ⊎ (ends_open T ≡ false) → row_refusal t q ≡ 0
        go (inl h) (inl o) = (asked-last h).1 ∙ rw o
        go (inl h) (inr o) = absurd (let e = rows-count T in
            let f : length (rows_of T) ≡ count_in 10 T + 0 = rw o at e in let z : ⊥ = omega (arith, (asked-last h).0) in z)
        go (inr h) o =
            let e = rows-count T in
            let some : q ≡ count_in 10 T + 1 → ⊥ = λ is.
            (let c = closed (not_last h is) in let f : length (rows_of T) ≡ count_in 10 T + 0 = rw c at e in let z : ⊥ = omega arith in z) in
            row-number-plain t q h ∙ select-lets t 10 q (record {
              pass = pass;
              counted = counted;
              low = low;
              high = omega (arith, all-is, e, some, added-few (ends_open T));
            })

    -- The refusal if there is no row q.
    pub row-twelve : (1 ≤ q → q ≤ length (rows_of T) → ⊥) → row_refusal t q ≡ 12
    row-twelve none = go (bool_cases (is_unterminated_row t q)) (bool_cases (ends_open T))
      where
        go : (is_unterminated_row t q ≡ true) ⊎ (is_unterminated_row t q ≡ false) → (ends_open T ≡ true) ⊎ (ends_open T ≡ false) → row_refusal t q ≡ 12
        go (inl h) (inl o) =
            let e = rows-count T in
            let f : length (rows_of T) ≡ count_in 10 T + 1 = rw o at e in
            absurd (none (omega (arith, (asked-last h).0)) (omega (arith, (asked-last h).0)))
        go (inl h) (inr o) = (asked-last h).1 ∙ rw o
        go (inr h) o = row-number-plain t q h ∙ twelve t 10 q pass counted (λ low high. none low (omega (arith, rows-count T, all-is)))

-- Byte 10 is not counted.
pub row-eleven : (t : List ℕ) (q : ℕ) → header_result t ≡ 0 → is_counted t 10 ≡ false → row_refusal t q ≡ 11
unfolding find_refusal is_unterminated_row row_refusal
row-eleven t q pass other = rw (pass, other)
