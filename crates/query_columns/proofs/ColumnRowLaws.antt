-- A row read by columns, question by question.
use Rattle.std.specs.Prelude.{Result, Ok, Err}
use Rattle.refusals.specs.declared.Refusal.{Refusal}
use Rattle.refusals.specs.declared.Refusal.TheVariants.{WidthDoesNotDivide, PastTheEnd, AnswerDoesNotFit}
use Rattle.refusals.specs.Refusals.{refusal_number}
use Rattle.refusals.specs.RefusalsLaws.{number-above}
use mathlib.Core.List.{List, ◌++◌}
use mathlib.Core.Bool.{Bool, true, false}
use mathlib.Core.Path.{◌≡◌, refl, ap, ◌∙◌}
use Prim.Native.Nat.{ℕ, suc, ◌+◌, ◌*◌, ◌/◌, ◌≤◌, ◌<◌}
use native.Mathlib.Omega.{arith}
use native.Mathlib.Nat.{mul_comm}
use lib.ListN.{length, set, drop, replicate, length-set}
use lib.Seq.{drop-set-lt}
use lib.Dec.{eqb}
use borrow.Author.Count.{below_more}
use borrow.Author.Tests.{lt-ltb, le-ltb, le-leb, lt-leb, eq-eqb, ne_eqb}
use Rattle.text.specs.Text.{tabulate}
use Rattle.text.specs.ListLaws.{all_below-not, all_below-make, tab-none, tab-more}
use Rattle.format.specs.Answers.{Answer, refused, replied, byte_answer}
use Rattle.columns.specs.Columns.{width_ok}
use Rattle.columns.specs.ColumnLaws.{within, width-rows}
use Rattle.format.specs.Layout as at
use Rattle.format.specs.TreeReading.{ask, header_result}
use Rattle.layout.specs.declared.header.Header.{Header}
use Rattle.layout.specs.Header.{header_answer}
use Rattle.layout.specs.HeaderFields.{HeaderOf, header_refused, header-small}
use Rattle.query_access.specs.ReadAnswers.{byte_reply}
use Rattle.query_access.proofs.CopyLaws as bytes
use Rattle.query_columns.specs.ColumnRows.{cell, cells_hold, row_by_columns_refusal, row_by_columns_buffer, row_by_columns_answer, IsRowByColumnsAnswer}
use Rattle.query_columns.specs.RowThere.{RowThere}

module _ (t : List ℕ) (w a : ℕ) (d : List ℕ) where
  -- An answer and what is left of the buffer.
  abbrev pub Read : Result (ℕ × ℕ) Refusal → List ℕ → Type 0
  Read r e = IsRowByColumnsAnswer t w a (length d) r × (e ≡ row_by_columns_buffer t w a d)

  -- Refused before any byte is read: the buffer stays.
  stays : (q : Refusal) (n : ℕ) → refusal_number q ≡ suc n → row_by_columns_refusal t w a (length d) ≡ suc n → (suc n ≡ 14 → ⊥) → Read (Err q) d
  unfolding row_by_columns_answer row_by_columns_buffer
  stays q n is e other =
      (record { answers = rw (is, e); numbered = number-above q }, rw (e, ne_eqb (suc n) 0 (λ z. omega arith), ne_eqb (suc n) 14 other))

  pub read-unread : (x : Result Header Refusal) → x ≡ header_answer t → (q : Refusal) → x ≡ Err q → Read (Err q) d
  unfolding row_by_columns_refusal
  read-unread x is q e =
      let z = header_refused t x is q e in
      let n : row_by_columns_refusal t w a (length d) ≡ suc z.0 = rw (ne_eqb (header_result t) 0 (λ y. omega (arith, z.1))) z.1 in
      stays q z.0 z.2 n (λ y. omega (arith, header-small t, z.1))

  module _ (h : Header) (k : HeaderOf t h) where
    pub read-width : width_ok w h.text_length ≡ false → Read (Err WidthDoesNotDivide) d
    unfolding row_by_columns_refusal
    read-width other =
        let z : width_ok w (at.text_length t) ≡ false = rw k.length_is at other in
        stays WidthDoesNotDivide 19 refl (rw (k.passes, z)) (λ y. omega arith)

    module _ (ok : width_ok w h.text_length ≡ true) where
      ok-t : width_ok w (at.text_length t) ≡ true
      ok-t = rw k.length_is at ok

      pub read_past : h.text_length / w ≤ a → Read (Err PastTheEnd) d
      unfolding row_by_columns_refusal
      read_past e = stays PastTheEnd 9 refl (rw (k.passes, ok-t, le-ltb a (at.text_length t / w) (rw k.length_is at e))) (λ z. omega arith)

      pub read_short : a < h.text_length / w → length d < w → Read (Err AnswerDoesNotFit) d
      unfolding row_by_columns_refusal
      read_short low e =
          stays AnswerDoesNotFit 12 refl
          (rw (k.passes, ok-t, lt-ltb a (at.text_length t / w) (rw k.length_is at low), lt-leb w (length d) e)) (λ z. omega arith)

-- Buffer e, where b columns of the row were copied to buffer d.
pub record Reading (t : List ℕ) (w a : ℕ) (d e : List ℕ) (b : ℕ) : Type 0 where
  pub same_length : length e ≡ length d
  pub values : e ≡ tabulate b (λ i. (byte_answer t (cell t w a i)).value) ++ drop b d
  pub past : drop w e ≡ drop w d
  pub hold : (i : ℕ) → i < b → (byte_answer t (cell t w a i)).number ≡ 0

pub read-start : (t : List ℕ) (w a : ℕ) (d : List ℕ) → Reading t w a d d 0
read-start t w a d = record {
  same_length = refl;
  values = tab-none (λ i. (byte_answer t (cell t w a i)).value) d;
  past = refl;
  hold = λ i l. absurd (let z : ⊥ = omega arith in z);
}

module _ (t : List ℕ) (h : Header) (w rows a : ℕ) (d : List ℕ) (k : RowThere t h w rows a (length d)) where
  -- A column's place is below n.
  pub cell_below : (b : ℕ) → b < w → b * rows + a < h.text_length
  cell_below b l =
      omega (arith, within b w rows a l k.below, mul_comm w rows, ap (λ (x : ℕ). x * w) k.rows_are, width-rows w h.text_length k.width)

  -- The place is that of the definition.
  cell-is : (b : ℕ) → b * rows + a ≡ cell t w a b
  unfolding cell
  cell-is b = rw (k.rows_are, k.header.length_is)

  number_is : row_by_columns_refusal t w a (length d) ≡ ask 14 (cells_hold t w a) 0
  unfolding row_by_columns_refusal
  number_is =
      let ok : width_ok w (at.text_length t) ≡ true = rw k.header.length_is at k.width in
      let low : a < at.text_length t / w = rw (k.rows_are, k.header.length_is) at k.below in
      rw (k.header.passes, ok, lt-ltb a (at.text_length t / w) low, le-leb w (length d) k.fits)

  module _ (e : List ℕ) (b : ℕ) (c : Reading t w a d e b) where
    module _ (more : b < w) (x : Result (ℕ × ℕ) Refusal) (x-is : replied (byte_reply x) ≡ byte_answer t (b * rows + a)) where
      -- One column more.
      pub read_more : (v n : ℕ) → x ≡ Ok (v, n) → Reading t w a d (set e b v) (b + 1)
      read_more v n is =
          let f : ℕ → ℕ = λ i. (byte_answer t (cell t w a i)).value in
          let z = rw (cell-is b) at (bytes.byte-good t h k.header (b * rows + a) (cell_below b more) x x-is v n is) in record {
            same_length = simp length-set c.same_length;
            values = tab-more b v f d e (omega (arith, k.fits)) z.1 c.values;
            past = drop-set-lt w e b v more ∙ c.past;
            hold = below_more (λ i. (byte_answer t (cell t w a i)).number ≡ 0) b c.hold z.0;
          }

      -- One is refused, and the row's part is cleared.
      pub read-broken : (q : Refusal) → x ≡ Err q → (z : List ℕ) → z ≡ replicate w 0 ++ drop w e → Read t w a d (Err q) z
      unfolding row_by_columns_answer row_by_columns_buffer cells_hold
      read-broken q is z z-is =
          let broken = bytes.byte-refused t h k.header (b * rows + a) (cell_below b more) x x-is q is in
          let said : refused (refusal_number q) ≡ byte_answer t (b * rows + a) = rw is at x-is in
          let q-14 : refusal_number q ≡ 14 = ap (λ (s : Answer). s.number) said ∙ broken in
          let here : (byte_answer t (cell t w a b)).number ≡ 14 = rw (cell-is b) at broken in
          let some-broken : cells_hold t w a ≡ false = all_below-not w (λ i. eqb (byte_answer t (cell t w a i)).number 0) b more (rw here) in
          let number : row_by_columns_refusal t w a (length d) ≡ 14 = number_is ∙ rw some-broken in
          (record { answers = rw (number, q-14); numbered = number-above q }, z-is ∙ rw (number, c.past))

    -- All are read.
    pub read_all : b ≡ w → Read t w a d (Ok (w, 0)) e
    unfolding row_by_columns_answer row_by_columns_buffer cells_hold
    read_all all =
        let test : ℕ → Bool = λ i. eqb (byte_answer t (cell t w a i)).number 0 in
        let each : cells_hold t w a ≡ true = all_below-make w test (λ i l. eq-eqb (byte_answer t (cell t w a i)).number 0 (c.hold i (omega arith))) in
        let number : row_by_columns_refusal t w a (length d) ≡ 0 = number_is ∙ rw each in
        (record { answers = rw number; numbered = tt }, rw number (rw all at c.values))
