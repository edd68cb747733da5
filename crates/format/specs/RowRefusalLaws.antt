-- Laws of the questions before row walks.
use Rattle.std.specs.Prelude.{List, [], ◌∷◌, true, false, ◌≡◌, ◌⊎◌, ℕ, ◌+◌, ◌-◌, ◌<◌}
use Rattle.std.proofs.Common.{sym, ◌∙◌, inl, inr}
use Rattle.std.proofs.Math.Dec.{ltb, eqb}
use borrow.Author.Tests.{eqb-true, eq-eqb, ltb-true, lt-ltb}
use Rattle.text.specs.ListLaws.{bool_cases}
use Rattle.text.specs.Conjunctions.{parts}
use Rattle.format.specs.Layout as at
use Rattle.format.specs.TreeReading.{header_result, check_result}
use Rattle.format.specs.Answers.{byte_answer, is_counted, number_of_byte, total, find_refusal, last_row_refusal, is_unterminated_row, row_refusal, RowBy}
use Rattle.format.specs.FindAnswerLaws.{select-passes}

module _ (t : List ℕ) where
  -- What row may return: determined on trees that the check accepts.
  abbrev pub RowAnswers : (q : ℕ) → List ℕ → (number size : ℕ) → List ℕ → Type 0
  RowAnswers = RowBy t (check_result t)

-- Row reads the last byte exactly where byte 10 is counted, the text has a byte, and q is the total plus one.
pub record AsksLast (t : List ℕ) (q : ℕ) : Type 0 where
  pub pass : header_result t ≡ 0
  pub counted : is_counted t 10 ≡ true
  pub some_byte : 0 < at.text_length t
  pub number : q ≡ total t (number_of_byte t 10) + 1

module _ (t : List ℕ) (q : ℕ) where
  pub asks-last : is_unterminated_row t q ≡ true → AsksLast t q
  unfolding is_unterminated_row
  asks-last h =
      let a = parts (eqb (header_result t) 0) (is_counted t 10 ∷ ltb 0 (at.text_length t) ∷ eqb q (total t (number_of_byte t 10) + 1) ∷ []) h in record {
        pass = eqb-true (header_result t) 0 a.0;
        counted = a.1.0;
        some_byte = ltb-true 0 (at.text_length t) a.1.1.0;
        number = eqb-true q (total t (number_of_byte t 10) + 1) a.1.1.1.0;
      }

  pub asks-lets : AsksLast t q → is_unterminated_row t q ≡ true
  unfolding is_unterminated_row
  asks-lets h = rw (h.pass, h.counted, lt-ltb 0 (at.text_length t) h.some_byte, eq-eqb q (total t (number_of_byte t 10) + 1) h.number)

  pub row-number-last : is_unterminated_row t q ≡ true → row_refusal t q ≡ last_row_refusal (byte_answer t (at.text_length t - 1))
  unfolding row_refusal
  row-number-last h = rw h

  pub row-number-plain : is_unterminated_row t q ≡ false → row_refusal t q ≡ find_refusal t 10 q
  unfolding row_refusal
  row-number-plain h = rw h

  -- What passes row's questions passes questions 5 to 7.
  pub row-header : row_refusal t q ≡ 0 → header_result t ≡ 0
  row-header z = go (bool_cases (is_unterminated_row t q))
    where
      go : (is_unterminated_row t q ≡ true) ⊎ (is_unterminated_row t q ≡ false) → header_result t ≡ 0
      go (inl h) = (asks-last h).pass
      go (inr h) = (select-passes t 10 q (sym (row-number-plain h) ∙ z)).pass
