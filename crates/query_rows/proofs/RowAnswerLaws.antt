-- Row, from its edges and the bytes between them.
use mathlib.Core.List.{List, ◌++◌}
use mathlib.Core.Bool.{cond}
use mathlib.Core.Path.{◌≡◌, refl, sym, ap, ◌∙◌}
use mathlib.Core.Logic.{inl, inr}
use Prim.Native.Nat.{ℕ, zero, suc, ◌≤◌}
use native.Mathlib.Omega.{arith}
use borrow.Author.Tests.{ne_eqb}
use lib.ListN.{length, drop, replicate}
use lib.Dec.{eqb}
use Rattle.text.specs.Text.{tabulate, substring, row_of}
use Rattle.text.specs.TextLaws.{length-substring}
use Rattle.format.specs.CheckResultLaws.{accepted-links}
use Rattle.format.specs.TreeReading.{text_of, header_result, check_result}
use Rattle.format.specs.Answers.{Answer, refused, unless, NeverZero, replied, paths_hold, buffer_after, copy_refusal, copy_answer, copy_buffer, find_refusal}
use Rattle.format.specs.AnswerLaws.{unless-number}
use Rattle.format.specs.Answers.{is_unterminated_row, row_refusal, row_most, RowBy}
use Rattle.theory_paths.specs.Theorems as paths
use Rattle.theory_paths.specs.OneText.{text-length}
use Rattle.std.specs.Prelude.{Result, Ok, Err}
use Rattle.text.specs.declared.TextPlace.{TextPlace}
use Rattle.refusals.specs.declared.Refusal.{Refusal}
use Rattle.refusals.specs.Refusals.{refusal_number}
use Rattle.refusals.specs.RefusalsLaws.{number-above}
use Rattle.layout.specs.declared.header.Header.{Header}
use Rattle.layout.specs.Header.{header_answer}
use Rattle.query_access.specs.ReadAnswers.{span_reply}
use Rattle.query_access.proofs.SpanLaws.{ByPaths, values, no_room}
use Rattle.layout.specs.HeaderFields.{header_refused}
use Rattle.query_rows.specs.RowAnswers.{row_reply, RowAnswerBy}
use Rattle.query_access.specs.declared.read_by_header.LeafRun.{LeafRun}
use Rattle.query_rows.specs.RowSpans.{IsRowCopy, Refuses, Spans, EdgesOf}
use Rattle.query_access.specs.ReadByRuns as access

row-refused : (t : List ℕ) (ok q n : ℕ) (buffer : List ℕ) → Refuses t ok (row_refusal t q) (row_of (text_of t) q) n → RowBy t ok q buffer n 0 buffer
row-refused t ok q n buffer r = record {
  asked = λ l. (r.asked l, refl, refl);
  short = λ z v l. absurd (r.accepted z v);
  accepted = λ z v l. absurd (r.accepted z v);
  free = λ z v. inl (r.free z, refl, refl);
}

-- What a copy's number leaves in the buffer.
module _ (t : List ℕ) (p len : ℕ) (buffer : List ℕ) where
  pub leaves_is : (n : ℕ) → copy_refusal t p len (length buffer) ≡ n
      → copy_buffer t p len buffer ≡ cond (eqb n 0) (tabulate len (values t p) ++ drop len buffer) (cond (eqb n 14) (replicate len 0 ++ drop len buffer) buffer)
  unfolding copy_buffer buffer_after
  leaves_is n e = rw e

unless-value : (n m : ℕ) (s a : Answer) → s ≡ unless n a → n ≡ suc m → s.value ≡ 0
unless-value n m s a e z = let f : s ≡ refused (suc m) = rw z at e in ap (λ (y : Answer). y.value) f

unless-none : (n : ℕ) (s a : Answer) → s ≡ unless n a → n ≡ 0 → s ≡ a
unless-none n s a e z = rw z at e

module _ (t : List ℕ) (ok : ℕ) (sound : ok ≡ 0 → check_result t ≡ 0) (q p len : ℕ) (run : LeafRun)
    (buffer after : List ℕ) (s : Answer) (passes : header_result t ≡ 0) (sp : Spans t ok (row_refusal t q) (row_of (text_of t) q) (row_most t q) p len run)
    (s-is : s ≡ copy_answer t p len (length buffer)) (after_is : after ≡ copy_buffer t p len buffer) where
  abbrev bytes_answer : Answer
  bytes_answer = record { number = 0; value = len; entered = 0 }

  said-is : s ≡ unless (copy_refusal t p len (length buffer)) bytes_answer
  unfolding copy_answer
  said-is = s-is

  s-number : s.number ≡ copy_refusal t p len (length buffer)
  s-number = ap (λ (y : Answer). y.number) said-is ∙ unless-number (copy_refusal t p len (length buffer)) bytes_answer refl

  s-none : (m : ℕ) → copy_refusal t p len (length buffer) ≡ suc m → s.value ≡ 0
  s-none m e = unless-value (copy_refusal t p len (length buffer)) m s bytes_answer said-is e

  s-some : copy_refusal t p len (length buffer) ≡ 0 → s.value ≡ len
  s-some e = ap (λ (y : Answer). y.value) (unless-none (copy_refusal t p len (length buffer)) s bytes_answer said-is e)

  -- The row is as long.
  row-long : ok ≡ 0 → length (row_of (text_of t) q) ≡ len
  row-long v = ap length (sym (sp.accepted v)) ∙ length-substring (text_of t) p len (omega (arith, sp.within, text-length t))

  pub row-spans : RowBy t ok q buffer s.number s.value after
  unfolding copy_refusal
  row-spans = record {
    asked = λ l. absurd (let z : ⊥ = omega (arith, sp.asked) in z);
    short = λ z v l.
        (let e = no_room t p len buffer (paths_hold t p len) (tabulate len (values t p)) 0 passes sp.within (omega (arith, row-long v)) in
        let f = leaves_is t p len buffer 13 e in
        (s-number ∙ e, s-none 12 e, after_is ∙ f));
    accepted = λ z v l.
        (let room : len ≤ length buffer = omega (arith, row-long v) in
        let e = paths.copy-good t passes (accepted-links t (sound v)) p len (length buffer) sp.within room in
        let size = s-some e in
        let f : after ≡ substring (text_of t) p len ++ drop len buffer =
        after_is ∙ paths.copy-of-text t passes (accepted-links t (sound v)) p len buffer sp.within room in
        (s-number ∙ e, size ∙ sym (row-long v), rw (size, ← sp.accepted v) f));
    free = λ z v. inr (record {
      start = p;
      len = len;
      within = sp.within;
      short = sp.short;
      number_is = ap (λ (y : Answer). y.number) s-is;
      size_is = ap (λ (y : Answer). y.value) s-is;
      after_is = after_is;
    });
  }

-- What is copied by paths reports no block.
none-entered : (k len : ℕ) → (unless k (record { number = 0; value = len; entered = 0 })).entered ≡ 0
none-entered zero len = refl
none-entered (suc k) len = refl

module _ (t : List ℕ) (p len room : ℕ) (x : Result (ℕ × ℕ) Refusal) (a : access.IsCopyAnswer t p len room x) where
  -- Bytes that access copied, as the row's.
  pub row-bytes : (n entered : ℕ) → x ≡ Ok (n, entered) → IsRowCopy t p len room (Ok n)
  unfolding copy_answer
  row-bytes n entered e =
      let s : replied (span_reply (Ok (n, entered))) ≡ copy_answer t p len room = rw e at a.answers in
      let z : entered ≡ 0 = ap (λ (y : Answer). y.entered) s ∙ none-entered (copy_refusal t p len room) len in
      record { answers = rw z at s; numbered = tt }

  -- The refusal of the copy is passed on.
  pub row-passed : (k : Refusal) → x ≡ Err k → IsRowCopy t p len room (Err k)
  row-passed k e = record { answers = rw e at a.answers; numbered = rw e at a.numbered }

-- As the code returns it.

pub copied : (t : List ℕ) (p len : ℕ) (d after : List ℕ) (r : Result ℕ Refusal) → NeverZero (row_reply r) → ByPaths t p len d (replied (row_reply r)) after
    → IsRowCopy t p len (length d) r × (after ≡ copy_buffer t p len d)
unfolding copy_answer copy_refusal copy_buffer
copied t p len d after r numbered k = (record { answers = k.answers; numbered = numbered }, k.leaves)

pub row-edges : (t : List ℕ) (ok q : ℕ) (x : Result (TextPlace × ℕ × LeafRun) Refusal) (k : Refusal) (buffer : List ℕ)
    → EdgesOf t ok (row_refusal t q) (row_of (text_of t) q) (row_most t q) x → x ≡ Err k → RowAnswerBy t ok q buffer (Err k) buffer
row-edges t ok q x k buffer h e =
    record { answers = row-refused t ok q (refusal_number k) buffer (h.refused k e); numbered = number-above k }

-- A tree that does not pass questions 5 to 7.
pub row-unread : (t : List ℕ) (ok q : ℕ) (buffer : List ℕ) (x : Result Header Refusal)
    → x ≡ header_answer t → (n : Refusal) → x ≡ Err n → RowAnswerBy t ok q buffer (Err n) buffer
unfolding find_refusal is_unterminated_row row_refusal
row-unread t ok q buffer x x-is n e =
    let z = header_refused t x x-is n e in
    let m : row_refusal t q ≡ suc z.0 = rw (z.1, ne_eqb (suc z.0) 0 (λ y. omega arith)) in
    record {
      answers = row-refused t ok q (refusal_number n) buffer (record {
        low = omega (arith, z.2);
        asked = λ l. z.2 ∙ sym m;
        accepted = λ y v. omega arith;
        free = λ y. absurd (let u : ⊥ = omega arith in u);
      });
      numbered = omega (arith, z.2);
    }
