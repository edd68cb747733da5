-- The demands on the reading of a row by columns, as theorems over what the call promises: of any tree that passes questions 5 to 7, and of every tree
-- that the check accepts, however it was built.
-- docs/FORMAT.md: "Columns before rows".
use Rattle.std.specs.Prelude.{Result, Ok, Err}
use Rattle.refusals.specs.declared.Refusal.{Refusal}
use Rattle.refusals.specs.declared.Refusal.TheVariants.{WidthDoesNotDivide, PastTheEnd, AnswerDoesNotFit, PathBroken}
use Rattle.refusals.specs.Refusals.{refusal_number, result_refusal}
use Rattle.refusals.specs.RefusalsLaws.{refused-as}
use mathlib.Core.List.{List, ◌++◌}
use mathlib.Core.Bool.{true, false}
use mathlib.Core.Path.{◌≡◌, refl, sym, ap, ◌∙◌}
use Prim.Native.Nat.{ℕ, suc, ◌+◌, ◌*◌, ◌/◌, ◌≤◌, ◌<◌}
use native.Mathlib.Omega.{arith}
use native.Mathlib.Nat.{mul_comm}
use contract.Lifetimes.{Lfts}
use denote.Ref.{Bor, MutBor}
use lib.ListN.{length, drop, get_or, replicate}
use lib.Dec.{eqb}
use borrow.Author.Tests.{lt-ltb, le-ltb, le-leb, lt-leb, eq-eqb, ne_eqb}
use Rattle.text.specs.Text.{tabulate, substring}
use Rattle.text.specs.ListLaws.{all_below-make, all_below-not, tabulate-ext}
use Rattle.columns.specs.Columns.{columns, uncolumns, width_ok}
use Rattle.columns.specs.ColumnLaws.{within, width-rows, columns-length, restored, row_read}
use Rattle.format.specs.Layout as at
use Rattle.format.specs.TreeReading.{text_of, header_result, check_result}
use Rattle.format.specs.CheckResultLaws.{accepted-header, accepted-links}
use Rattle.format.specs.Answers.{Answer, refused, replied, byte_answer}
use Rattle.theory_paths.specs.Theorems as paths
use Rattle.query_access.specs.ReadAnswers.{span_reply}
use Rattle.query_access.proofs.Theorems.{copied_is, copied-no}
use Rattle.query_columns.specs.ColumnRows.{cell, cells_hold, row_by_columns_refusal, row_by_columns_buffer, row_by_columns_answer}
use Rattle.query_columns.proofs.row_by_columns.Reads as reads

-- r is an answer that the contract of `row_by_columns` allows to a call with these arguments, with the buffer left as `after`
abbrev pub ByColumns : (κs : Lfts 2) → Bor (List ℕ) → (w a : ℕ) → (buffer after : MutBor (List ℕ)) → Result (ℕ × ℕ) Refusal → Type 0
ByColumns κs t w a buffer after r = reads.Post κs (t, (w, (a, (buffer, tt)))) r (t, (w, (a, (after, tt))))

columns-refusal : (r : Result (ℕ × ℕ) Refusal) → result_refusal r ≡ (replied (span_reply r)).number
columns-refusal (Ok x) = refl
columns-refusal (Err q) = refl

-- For any bytes.
module _ (κs : Lfts 2) (t : Bor (List ℕ)) (w a : ℕ) (buffer after : MutBor (List ℕ)) (r : Result (ℕ × ℕ) Refusal) (c : ByColumns κs t w a buffer after r) where
  -- A refusal other than 14 leaves the buffer.
  refuses : (n : ℕ) → row_by_columns_refusal t.now w a (length buffer.now) ≡ suc n → (suc n ≡ 14 → ⊥)
      → (result_refusal r ≡ suc n) × (after.now ≡ buffer.now)
  unfolding row_by_columns_answer row_by_columns_buffer
  refuses n e other =
      let said : replied (span_reply r) ≡ refused (suc n) = c.0.answers ∙ rw e in
      (columns-refusal r ∙ ap (λ (s : Answer). s.number) said, c.1 ∙ rw (e, ne_eqb (suc n) 0 (λ z. omega arith), ne_eqb (suc n) 14 other))

  refuses-by : (q : Refusal) (n : ℕ) → suc n ≡ refusal_number q → row_by_columns_refusal t.now w a (length buffer.now) ≡ suc n → (suc n ≡ 14 → ⊥)
      → (r ≡ Err q) × (after.now ≡ buffer.now)
  refuses-by q n is e other = let z = refuses n e other in (refused-as r q (z.0 ∙ is), z.1)

  -- Refused with 5, 6 or 7.
  pub column-unread : (n : ℕ) → header_result t.now ≡ suc n → suc n < 14 → (result_refusal r ≡ suc n) × (after.now ≡ buffer.now)
  unfolding row_by_columns_refusal
  column-unread n e low = refuses n (rw (e, ne_eqb (suc n) 0 (λ z. omega arith))) (λ z. omega arith)

  module _ (pass : header_result t.now ≡ 0) where
    -- Refused with 20: the width is 0 or does not divide n.
    pub column_width : width_ok w (at.text_length t.now) ≡ false → (r ≡ Err WidthDoesNotDivide) × (after.now ≡ buffer.now)
    unfolding row_by_columns_refusal
    column_width other = refuses-by WidthDoesNotDivide 19 refl (rw (pass, other)) (λ z. omega arith)

    module _ (ok : width_ok w (at.text_length t.now) ≡ true) where
      -- Refused with 10: there is no row a.
      pub column_past : at.text_length t.now / w ≤ a → (r ≡ Err PastTheEnd) × (after.now ≡ buffer.now)
      unfolding row_by_columns_refusal
      column_past h = refuses-by PastTheEnd 9 refl (rw (pass, ok, le-ltb a (at.text_length t.now / w) h)) (λ z. omega arith)

      module _ (low : a < at.text_length t.now / w) where
        -- Refused with 13: the buffer has fewer than w bytes.
        pub column_short : length buffer.now < w → (r ≡ Err AnswerDoesNotFit) × (after.now ≡ buffer.now)
        unfolding row_by_columns_refusal
        column_short h =
            refuses-by AnswerDoesNotFit 12 refl (rw (pass, ok, lt-ltb a (at.text_length t.now / w) low, lt-leb w (length buffer.now) h)) (λ z. omega arith)

        module _ (room : w ≤ length buffer.now) where
          -- Refused with 14: the path of one of the row's places breaks. The first w bytes of the buffer are then zero.
          pub column-broken : (b : ℕ) → b < w → (byte_answer t.now (b * (at.text_length t.now / w) + a)).number ≡ 14
              → (r ≡ Err PathBroken) × (after.now ≡ replicate w 0 ++ drop w buffer.now)
          unfolding row_by_columns_refusal row_by_columns_answer row_by_columns_buffer cells_hold cell
          column-broken b more e =
              let broken : cells_hold t.now w a ≡ false =
              all_below-not w (λ i. eqb (byte_answer t.now (cell t.now w a i)).number 0) b more (rw e) in
              let number : row_by_columns_refusal t.now w a (length buffer.now) ≡ 14 =
              rw (pass, ok, lt-ltb a (at.text_length t.now / w) low, le-leb w (length buffer.now) room, broken) in
              (copied-no r PathBroken (c.0.answers ∙ rw number), c.1 ∙ rw number)

          -- Where each holds, the row is what the paths give.
          pub column-read : ((b : ℕ) → b < w → (byte_answer t.now (b * (at.text_length t.now / w) + a)).number ≡ 0)
              → (r ≡ Ok (w, 0))
              × (after.now ≡ tabulate w (λ b. (byte_answer t.now (b * (at.text_length t.now / w) + a)).value) ++ drop w buffer.now)
          unfolding row_by_columns_refusal row_by_columns_answer row_by_columns_buffer cells_hold cell
          column-read each =
              let hold : cells_hold t.now w a ≡ true =
              all_below-make w (λ i. eqb (byte_answer t.now (cell t.now w a i)).number 0) (λ i l. eq-eqb _ 0 (each i l)) in
              let number : row_by_columns_refusal t.now w a (length buffer.now) ≡ 0 =
              rw (pass, ok, lt-ltb a (at.text_length t.now / w) low, le-leb w (length buffer.now) room, hold) in
              (copied_is r w 0 (c.0.answers ∙ rw number), c.1 ∙ rw number)

-- For any accepted tree whose text is a rearrangement: row a of the original text, end byte included, then the old bytes of the buffer.
module _ (κs : Lfts 2) (t : Bor (List ℕ)) (v : check_result t.now ≡ 0) (w a : ℕ) (buffer after : MutBor (List ℕ)) (r : Result (ℕ × ℕ) Refusal)
    (c : ByColumns κs t w a buffer after r) where
  pub column-copies : width_ok w (length (text_of t.now)) ≡ true → a < length (text_of t.now) / w → w ≤ length buffer.now
      → (r ≡ Ok (w, 0)) × (after.now ≡ substring (uncolumns w (text_of t.now)) (a * w) w ++ drop w buffer.now)
  column-copies ok low room =
      let z = column-read κs t w a buffer after r c pass (rw size at ok) (rw size at low) room (λ b l. (byte_is b l).0) in
      (z.0, z.1 ∙ ap (λ (l : List ℕ). l ++ drop w buffer.now) row_is)
    where
      pass : header_result t.now ≡ 0
      pass = accepted-header t.now v

      size : length (text_of t.now) ≡ at.text_length t.now
      size = paths.text-size t.now pass (accepted-links t.now v)

      -- Each of the row's bytes is answered, and is the text's.
      byte_is : (b : ℕ) → b < w → ((byte_answer t.now (b * (at.text_length t.now / w) + a)).number ≡ 0)
          × ((byte_answer t.now (b * (at.text_length t.now / w) + a)).value ≡ get_or (text_of t.now) (b * (at.text_length t.now / w) + a) 0)
      byte_is b l =
          let rows = at.text_length t.now / w in
          let below : b * rows + a < at.text_length t.now =
          omega (arith, within b w rows a l (rw size at low), mul_comm w rows, width-rows w (at.text_length t.now) (rw size at ok)) in
          let z = paths.byte-of-text t.now pass (accepted-links t.now v) (b * rows + a) below in
          (ap (λ (s : Answer). s.number) z.2, ap (λ (s : Answer). s.value) z.2)

      row_is : tabulate w (λ b. (byte_answer t.now (b * (at.text_length t.now / w) + a)).value) ≡ substring (uncolumns w (text_of t.now)) (a * w) w
      row_is =
          tabulate-ext w (λ b. (byte_answer t.now (b * (at.text_length t.now / w) + a)).value)
          (λ b. get_or (text_of t.now) (b * (at.text_length t.now / w) + a) 0)
          (λ b l. (byte_is b l).1)
          ∙ sym (rw size at (row_read w (text_of t.now) ok a low))

  -- From the tree of a rearranged text the call gives row a of the original text.
  pub row-of-text : (T : List ℕ) → width_ok w (length T) ≡ true → text_of t.now ≡ columns w T → a < length T / w → w ≤ length buffer.now
      → (r ≡ Ok (w, 0)) × (after.now ≡ substring T (a * w) w ++ drop w buffer.now)
  row-of-text T ok is low room =
      let size : length (text_of t.now) ≡ length T = ap length is ∙ columns-length w T ok in
      let z = column-copies (rw size ok) (rw size low) room in
      let back : uncolumns w (text_of t.now) ≡ T = ap (uncolumns w) is ∙ restored w T ok in
      (z.0, rw back at z.1)
