-- The length of a row from its edges, and the number of rows from the total and the last byte.
use mathlib.Core.List.{List}
use mathlib.Core.Bool.{Bool, true, false, cond}
use mathlib.Core.Path.{◌≡◌, refl, sym, ap, ◌∙◌}
use mathlib.Core.Logic.{inl, inr}
use Prim.Native.Nat.{ℕ, suc, ◌+◌, ◌-◌, ◌≤◌, ◌<◌}
use native.Mathlib.Omega.{arith}
use borrow.Author.Tests.{eq-eqb, ne_eqb, lt-ltb, le-ltb}
use lib.ListN.{length, get_or}
use lib.Dec.{eqb}
use Rattle.text.specs.TextLaws.{length-substring}
use Rattle.text.specs.Text.{row_of}
use Rattle.text.specs.declared.TextPlace.{TextPlace}
use Rattle.format.specs.WordLaws.{word_at-lt}
use Rattle.format.specs.Layout.{before_field, inside_field}
use Rattle.format.specs.Layout as at
use Rattle.format.specs.TreeReading.{text_of}
use Rattle.format.specs.Answers.{Answer, refused, replied, byte_answer, is_counted, number_of_byte, total, find_refusal, is_unterminated_row, row_refusal, row_most}
use Rattle.format.specs.AnswerLaws.{unless-refused}
use Rattle.theory_paths.specs.PlaceBytes.{only-14}
use Rattle.theory_paths.specs.OneText.{text-length}
use Rattle.layout.specs.declared.header.Header.{Header}
use Rattle.std.specs.Prelude.{Result, Ok, Err}
use Rattle.refusals.specs.declared.Refusal.{Refusal}
use Rattle.refusals.specs.declared.Refusal.TheVariants.{ByteNotCounted}
use Rattle.refusals.specs.Refusals.{refusal_number}
use Rattle.layout.specs.Header.{header_answer}
use Rattle.layout.specs.HeaderFields.{HeaderOf, header_refused}
use Rattle.query_access.specs.ReadAnswers.{byte_reply}
use Rattle.query_counted.proofs.TotalLaws.{not-counted, is-counted}
use Rattle.query_access.specs.declared.read_by_header.LeafRun.{LeafRun}
use Rattle.query_rows.specs.RowSpans.{settled_by, EdgesOf}
use Rattle.query_rows.specs.RowAnswers.{row_count_refusal, last_open, row_count_answer, IsRowLengthAnswer, IsRowCountAnswer}

-- The length of a row.
module _ (t : List ℕ) (q : ℕ) where
  module _ (guide : List ℕ) (x : Result (TextPlace × ℕ × LeafRun) Refusal)
      (k : EdgesOf t (settled_by t guide false) (row_refusal t q) (row_of (text_of t) q) (row_most t q) x) where
    pub length-answered : (start : TextPlace) (len : ℕ) (run : LeafRun) → x ≡ Ok (start, len, run) → IsRowLengthAnswer t q (Ok len)
    unfolding settled_by
    length-answered start len run e =
        let s = k.spans start len run e in record {
          answers = record {
            asked = λ l. absurd (let z : ⊥ = omega (arith, s.asked) in z);
            accepted = λ z v. (
              refl,
              sym
                  (ap length (sym (s.accepted v)) ∙ length-substring (text_of t) start.0 len (omega (arith, s.within, text-length t))),
            );
            free = λ z v. inl (refl, s.short);
          };
          numbered = tt;
        }

    pub length-refused : (n : Refusal) → x ≡ Err n → IsRowLengthAnswer t q (Err n)
    unfolding settled_by
    length-refused n e =
        let s = k.refused n e in record {
          answers = record { asked = λ l. (s.asked l, refl); accepted = λ z v. absurd (s.accepted z v); free = λ z v. inr (s.free z, refl) };
          numbered = s.low;
        }

  -- A tree that does not pass questions 5 to 7.
  pub length-unread : (x : Result Header Refusal) → x ≡ header_answer t → (n : Refusal) → x ≡ Err n → IsRowLengthAnswer t q (Err n)
  unfolding find_refusal is_unterminated_row row_refusal
  length-unread x x-is n e =
      let z = header_refused t x x-is n e in
      let m : row_refusal t q ≡ suc z.0 = rw (z.1, ne_eqb (suc z.0) 0 (λ y. omega arith)) in
      record {
        answers = record {
          asked = λ l. (z.2 ∙ sym m, refl);
          accepted = λ y v. absurd (let u : ⊥ = omega arith in u);
          free = λ y v. absurd (let u : ⊥ = omega arith in u);
        };
        numbered = omega (arith, z.2);
      }

-- The number of rows.
pub row-count-unread : (t : List ℕ) (x : Result Header Refusal) → x ≡ header_answer t → (n : Refusal) → x ≡ Err n → IsRowCountAnswer t (Err n)
unfolding row_count_answer row_count_refusal
row-count-unread t x x-is n e =
    let z = header_refused t x x-is n e in
    let m : row_count_refusal t ≡ suc z.0 = rw (z.1, ne_eqb (suc z.0) 0 (λ y. omega arith)) in
    record { answers = unless-refused (row_count_refusal t) z.0 (refusal_number n) _ m z.2; numbered = omega (arith, z.2) }

-- A total is a sum of two words.
total-small : (t : List ℕ) → ((k : ℕ) → get_or t k 0 < 256) → (c : ℕ) → total t c < 8589934592
unfolding total at.before at.inside at.field
total-small t bytes c = go (eqb (at.level_count t 0) 0)
  where
    word : (i : ℕ) → at.field t 0 (at.level_count t 0 - 1) i < 4294967296
    word i = word_at-lt t _ bytes

    go : (b : Bool) → cond b 0 (at.field t 0 (at.level_count t 0 - 1) (before_field c) + at.field t 0 (at.level_count t 0 - 1) (inside_field c)) < 8589934592
    go true = omega arith
    go false = omega (arith, word (before_field c), word (inside_field c))

pub rows_fit : (t : List ℕ) → ((k : ℕ) → get_or t k 0 < 256) → (c tens : ℕ) → tens ≡ total t c → tens + 1 < 18446744073709551616
rows_fit t bytes c tens e = omega (arith, total-small t bytes c)

module _ (t : List ℕ) (h : Header) (k : HeaderOf t h) (number : ℕ) (is : number ≡ number_of_byte t 10) where
  pub count-11 : h.settings.counted ≤ number → IsRowCountAnswer t (Err ByteNotCounted)
  unfolding row_count_answer row_count_refusal
  count-11 past = record { answers = rw (k.passes, not-counted t h k 10 number is past); numbered = omega arith }

  module _ (low : number < h.settings.counted) (tens : ℕ) (tens-is : tens ≡ total t number) where
    counted : is_counted t 10 ≡ true
    counted = is-counted t h k 10 number is low

    all : tens ≡ total t (number_of_byte t 10)
    all = rw (tens-is, is)

    pub count-empty : h.text_length ≡ 0 → IsRowCountAnswer t (Ok tens)
    unfolding row_count_answer row_count_refusal last_open
    count-empty z =
        let e : at.text_length t ≡ 0 = omega (arith, k.length_is) in
        let z : tens ≡ tens + 0 = omega arith in
        record { answers = rw (k.passes, counted, eq-eqb (at.text_length t) 0 e, le-ltb 0 (at.text_length t) (omega arith), ← all, ← z); numbered = tt }

    module _ (some_byte : h.text_length ≡ 0 → ⊥) (x : Result (ℕ × ℕ) Refusal) (x-is : replied (byte_reply x) ≡ byte_answer t (h.text_length - 1)) where
      here : byte_answer t (at.text_length t - 1) ≡ replied (byte_reply x)
      here = rw (← k.length_is) (sym x-is)

      not-zero : eqb (at.text_length t) 0 ≡ false
      not-zero = ne_eqb (at.text_length t) 0 (λ e. some_byte (omega (arith, k.length_is)))

      pub count-broken : (n : Refusal) → x ≡ Err n → IsRowCountAnswer t (Err n)
      unfolding row_count_answer row_count_refusal
      count-broken n e =
          let same : byte_answer t (at.text_length t - 1) ≡ refused (refusal_number n) = here ∙ rw e in
          let z = only-14 t k.passes
          (at.text_length t - 1) (let y : at.text_length t - 1 < at.text_length t = omega (arith, some_byte, k.length_is) in y) (refusal_number n) (sym same) in
          let y : refusal_number n ≡ 14 = ap (λ (s : Answer). s.number) (sym same) ∙ z in
          record { answers = rw (k.passes, counted, not-zero, z, y); numbered = omega arith }

      module _ (value figure : ℕ) (x-byte : x ≡ Ok (value, figure)) where
        last : (n : ℕ) → n ≡ tens + cond (last_open t) 1 0 → IsRowCountAnswer t (Ok n)
        unfolding row_count_answer row_count_refusal
        last n e = record { answers = rw (k.passes, counted, not-zero, here, x-byte, e, all); numbered = tt }

        some : 0 < at.text_length t
        some = omega (arith, some_byte, k.length_is)

        pub count-ended : value ≡ 10 → IsRowCountAnswer t (Ok tens)
        unfolding last_open
        count-ended ten = last tens (rw (lt-ltb 0 (at.text_length t) some, here, x-byte, ten) (let z : tens ≡ tens + 0 = omega arith in z))

        pub count-open : (value ≡ 10 → ⊥) → IsRowCountAnswer t (Ok (tens + 1))
        unfolding last_open
        count-open other = last (tens + 1) (rw (lt-ltb 0 (at.text_length t) some, here, x-byte, ne_eqb 10 value (λ e. other (sym e))))
