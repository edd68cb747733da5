-- span(tree, place, length, buffer): bytes copied from a place on, with the blocks that a short span enters.
use Rattle.std.specs.Prelude.{Ok, Err}
use Rattle.refusals.specs.declared.Refusal.TheVariants.{PastTheEnd, AnswerDoesNotFit, PathBroken}
use Rattle.refusals.specs.Refusals.{refusal_number}
use Rattle.refusals.specs.RefusalsLaws.{one-number}
use mathlib.Core.List.{List, [], ◌∷◌, ◌++◌}
use mathlib.Core.Bool.{true, Bool}
use mathlib.Core.Path.{◌≡◌, ◌∙◌, refl}
use Prim.Native.Nat.{ℕ, suc, ◌+◌, ◌≤◌, ◌<◌}
use native.Mathlib.Omega.{arith}
use contract.Lifetimes.{Lfts}
use lib.ListN.{length, drop, replicate}
use lib.Dec.{leb}
use lib.Seq.{drop_at}
use borrow.Author.Tests.{eq-eqb, ne_eqb, leb-true, le-leb, lt-leb}
use Rattle.text.specs.declared.TextPlace.{TextPlace}
use Rattle.format.specs.Layout as at
use Rattle.format.specs.TreeReading.{text_of, header_result, check_result, asks}
use Rattle.format.specs.CheckResultLaws.{accepted-header}
use Rattle.query_access.specs.ReadAnswers.{span_reply}
use Rattle.format.specs.Answers.{refused, replied, span_blocks, span_reached, buffer_after, span_bytes, span_refusal, span_answer, span_buffer, span_questions}
use Rattle.format.specs.AnswerLaws.{next-passes, asks-pass}
use Rattle.theory_edges.specs.Theorems as edges
use Rattle.query_access.proofs.Theorems as access
use Rattle.theorems.specs.CallContracts.{SpanAnswer, Refusal}
use Rattle.theorems.specs.Promises.{BlocksOfSpan, SpanAnswers, SpanRefuses}
use Rattle.theorems.specs.PublicFunctions.{span_function}
use Rattle.theorems.proofs.AcceptedTree.{text-size}
use Rattle.theorems.proofs.BlocksEntered.{blocks-of-span}
use Rattle.theorems.proofs.PublicCall.{Call, Borrowed, BorrowedMut, call}
use Rattle.theorems.proofs.RefusalNumbers.{OneOf, asks-one, not-zero, header-one, answers-answer, answers-refused, then_one}
use Rattle.query_access.proofs.span.Met as span-met
-- What the contract allows, where the buffer is left as `after`: `Span κs tree place length buffer after r`.
pub use Rattle.theorems.specs.CallContracts.{Span}

abbrev pub span_call : Call
span_call = call span_function span-met.met (λ 𝓤 𝓛 mem run κs a. (tt, refl))

-- For any bytes.

-- The numbers that its questions can give.
span-one : (t : List ℕ) (p len room : ℕ) → OneOf (5 ∷ 6 ∷ 7 ∷ 10 ∷ 13 ∷ 14 ∷ 0 ∷ []) (span_refusal t p len room)
unfolding span_refusal span_questions
span-one t p len room =
    then_one (5 ∷ 6 ∷ 7 ∷ []) (10 ∷ 13 ∷ 14 ∷ 0 ∷ []) (header_result t) _ (header-one t)
    (asks-one ((10, leb (p + len) (at.text_length t)) ∷ (13, leb len room) ∷ (14, span_reached t p len) ∷ []))

-- Span is not refused only if its bytes fit the buffer and are reached.
record CallSpanned (t : List ℕ) (p len room : ℕ) : Type 0 where
  pass : header_result t ≡ 0
  fits : len ≤ room
  reached : span_reached t p len ≡ true

span-passes : (t : List ℕ) (p len room : ℕ) → span_refusal t p len room ≡ 0 → CallSpanned t p len room
unfolding span_refusal span_questions
span-passes t p len room h =
    let questions : List (ℕ × Bool) = (10, leb (p + len) (at.text_length t)) ∷ (13, leb len room) ∷ (14, span_reached t p len) ∷ [] in
    let a = next-passes (header_result t) (asks questions) h in
    let b = asks-pass questions refl a.1 in
    record { pass = a.0; fits = leb-true len room b.1.0; reached = b.1.1.0 }

module _ (κs : Lfts 2) (t : Borrowed) (p : TextPlace) (len : ℕ) (buffer after : BorrowedMut) where
  -- The result is the given length, which fits, with the blocks entered, and the bytes after it are unchanged.
  pub span-answer : (m e : ℕ) → Span κs t p len buffer after (Ok (m, e))
      → (m ≡ len) × BlocksOfSpan t.now (at.settings t.now).levels p.0 len e × (len ≤ length buffer.now)
      × (drop len after.now ≡ drop len buffer.now)
  unfolding span_answer span_buffer buffer_after
  span-answer m e a =
      let s = answers-answer m e _ len _ a.0.answers in
      let bytes = span_bytes t.now p.0 len in
      let number = span_refusal t.now p.0 len (length buffer.now) in
      let left : after.now ≡ bytes ++ drop len buffer.now = rw (eq-eqb number 0 s.0) at a.1 in
      let w = span-passes t.now p.0 len (length buffer.now) s.0 in (
        s.1,
        rw s.2 (blocks-of-span t.now w.pass p.0 len w.reached),
        w.fits,
        rw left (drop_at bytes (drop len buffer.now) len (edges.span-length t.now w.pass p.0 len w.reached)),
      )

  module _ (q : Refusal) (a : Span κs t p len buffer after (Err q)) where
    -- The number is the definition's.
    span-answers : refusal_number q ≡ span_refusal t.now p.0 len (length buffer.now)
    unfolding span_answer
    span-answers = answers-refused (refusal_number q) _ len _ a.0.numbered a.0.answers

    -- A refusal is 5, 6, 7, 10, 13 or 14.
    pub span-numbers : OneOf (5 ∷ 6 ∷ 7 ∷ 10 ∷ 13 ∷ 14 ∷ []) (refusal_number q)
    span-numbers =
        not-zero (5 ∷ 6 ∷ 7 ∷ 10 ∷ 13 ∷ 14 ∷ []) (refusal_number q) a.0.numbered (rw span-answers (span-one t.now p.0 len (length buffer.now)))

    -- Refusal 14 leaves zeros in the first `len` bytes.
    pub span-zeros : q ≡ PathBroken → after.now ≡ replicate len 0 ++ drop len buffer.now
    unfolding span_buffer buffer_after
    span-zeros e = a.1 ∙ rw (← span-answers, e)

    -- Any other refusal leaves the buffer unchanged.
    pub span-unchanged : (q ≡ PathBroken → ⊥) → after.now ≡ buffer.now
    unfolding span_buffer buffer_after
    span-unchanged e = a.1 ∙ rw (
      ← span-answers,
      ne_eqb (refusal_number q) 0 (λ z. omega (arith, a.0.numbered)),
      ne_eqb (refusal_number q) 14 (λ z. e (one-number q PathBroken z)),
    )

-- Any tree that the check accepts, and the one text that fits it.
module _ (t : Borrowed) (v : check_result t.now ≡ 0) where
  abbrev T : List ℕ
  T = text_of t.now

  pass : header_result t.now ≡ 0
  pass = accepted-header t.now v

  size : length T ≡ at.text_length t.now
  size = text-size t.now v

  pub accepted-answers : SpanAnswers t (at.settings t.now) T
  accepted-answers = record {
    span_of = λ κs p len buffer after r a low room.
        let in_text : p.0 + len ≤ at.text_length t.now = omega (arith, size) in
        let w = access.span-copies t v κs p len buffer after r in_text room a in
        (span_blocks t.now p.0 len, blocks-of-span t.now pass p.0 len (edges.span-reached t.now v p.0 len in_text), w.0, w.2);
  }

  -- A refused span answers its number, and leaves the buffer.
  refuses : (κs : Lfts 2) (p : TextPlace) (len : ℕ) (buffer after : BorrowedMut) (r : SpanAnswer) (q : Refusal) (n : ℕ) → suc n ≡ refusal_number q
      → Span κs t p len buffer after r → span_refusal t.now p.0 len (length buffer.now) ≡ suc n → (suc n ≡ 14 → ⊥) → (r ≡ Err q) × (after.now ≡ buffer.now)
  unfolding span_answer span_buffer buffer_after
  refuses κs p len buffer after r q n is a e other =
      let said : replied (span_reply r) ≡ refused (suc n) = a.0.answers ∙ rw e in
      (access.copied-no r q (rw is at said), a.1 ∙ rw (e, ne_eqb (suc n) 0 (λ z. omega arith), ne_eqb (suc n) 14 other))

  span-ten : (p len room : ℕ) → length T < p + len → span_refusal t.now p len room ≡ 10
  unfolding span_refusal span_questions
  span-ten p len room h = rw (pass, lt-leb (p + len) (at.text_length t.now) (omega (arith, size)))

  span-thirteen : (p len room : ℕ) → p + len ≤ length T → room < len → span_refusal t.now p len room ≡ 13
  unfolding span_refusal span_questions
  span-thirteen p len room h short = rw (pass, le-leb (p + len) (at.text_length t.now) (omega (arith, size)), lt-leb len room short)

  pub accepted-refuses : SpanRefuses t (at.settings t.now) T
  accepted-refuses = record {
    span_past = λ κs p len buffer after r a h. refuses κs p len buffer after r PastTheEnd 9 refl a (span-ten p.0 len (length buffer.now) h) (λ z. omega arith);
    span_short = λ κs p len buffer after r a h small.
        refuses κs p len buffer after r AnswerDoesNotFit 12 refl a (span-thirteen p.0 len (length buffer.now) h small) (λ z. omega arith);
  }
