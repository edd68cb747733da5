-- Span: each of its questions, and what it then leaves.
use Rattle.std.specs.Prelude.{Result, Err}
use Rattle.refusals.specs.declared.Refusal.{Refusal}
use Rattle.refusals.specs.Refusals.{refusal_number}
use mathlib.Core.List.{List, ◌++◌}
use mathlib.Core.Bool.{Bool, true, false}
use mathlib.Core.Path.{◌≡◌, ◌∙◌}
use Prim.Native.Nat.{ℕ, suc, ◌+◌, ◌≤◌, ◌<◌}
use native.Mathlib.Omega.{arith}
use borrow.Author.Tests.{le-leb, lt-leb, ne_eqb}
use lib.Dec.{leb}
use lib.ListN.{length, drop, replicate}
use Rattle.text.specs.Text.{tabulate}
use Rattle.format.specs.Layout as at
use Rattle.format.specs.TreeReading.{ask, header_result}
use Rattle.format.specs.Answers.{Answer, refused, unless, NeverZero, replied}
use Rattle.format.specs.Answers.{byte_answer, paths_hold, span_questions, buffer_after, is_short, span_reached}
use Rattle.format.specs.Answers.{span_bytes, span_blocks, span_refusal, span_answer}
use Rattle.format.specs.Answers.{span_buffer, copy_refusal, copy_answer, copy_buffer}
use Rattle.layout.specs.declared.header.Header.{Header}
use Rattle.layout.specs.Header.{header_answer}
use Rattle.layout.specs.HeaderFields.{header_refused, header-small}
use Rattle.query_access.specs.ReadAnswers.{span_reply, IsSpanAnswer}
use Rattle.query_access.specs.ReadByRuns.{IsCopyAnswer}

-- s and after are the answer of a span and the buffer afterwards, given whether its bytes are reached and the number of blocks entered.
pub record Spanned (t : List ℕ) (p len : ℕ) (d : List ℕ) (reached : Bool) (bytes : List ℕ) (blocks : ℕ) (s : Answer) (after : List ℕ) : Type 0 where
  pub answers : s ≡ unless (span_questions t p len (length d) reached) (record { number = 0; value = len; entered = blocks })
  pub leaves : after ≡ buffer_after t (span_questions t p len (length d) reached) len bytes d

-- The bytes of places, each by its path.
abbrev pub values : List ℕ → ℕ → ℕ → ℕ
values t p j = (byte_answer t (p + j)).value

abbrev pub ByPaths : List ℕ → ℕ → ℕ → List ℕ → Answer → List ℕ → Type 0
ByPaths t p len d = Spanned t p len d (paths_hold t p len) (tabulate len (values t p)) 0

-- A span, read either way.
abbrev pub Whole : List ℕ → ℕ → ℕ → List ℕ → Answer → List ℕ → Type 0
Whole t p len d = Spanned t p len d (span_reached t p len) (span_bytes t p len) (span_blocks t p len)

pub access-answered : (t : List ℕ) (p len : ℕ) (d after : List ℕ) (r : Result (ℕ × ℕ) Refusal) → NeverZero (span_reply r)
    → Whole t p len d (replied (span_reply r)) after
    → IsSpanAnswer t p len (length d) r × (after ≡ span_buffer t p len d)
unfolding span_answer span_refusal span_buffer
access-answered t p len d after r numbered k = (record { answers = k.answers; numbered = numbered }, k.leaves)

pub copy-answered : (t : List ℕ) (p len : ℕ) (d after : List ℕ) (r : Result (ℕ × ℕ) Refusal) → NeverZero (span_reply r)
    → ByPaths t p len d (replied (span_reply r)) after
    → IsCopyAnswer t p len (length d) r × (after ≡ copy_buffer t p len d)
unfolding copy_answer copy_refusal copy_buffer
copy-answered t p len d after r numbered k = (record { answers = k.answers; numbered = numbered }, k.leaves)

-- A span that is not short is read by its bytes' paths.
pub by_paths : (t : List ℕ) (p len : ℕ) (d after : List ℕ) (r : Result (ℕ × ℕ) Refusal) → is_short t len ≡ false → IsCopyAnswer t p len (length d) r → after
    ≡ copy_buffer t p len d
    → IsSpanAnswer t p len (length d) r × (after ≡ span_buffer t p len d)
unfolding span_answer span_refusal span_buffer span_reached span_bytes span_blocks copy_answer copy_refusal copy_buffer
by_paths t p len d after r long a e = (record { answers = a.answers ∙ rw long; numbered = a.numbered }, e ∙ rw long)

module _ (t : List ℕ) (p len : ℕ) (d : List ℕ) (reached : Bool) (bytes : List ℕ) (blocks : ℕ) where
  abbrev number : ℕ
  number = span_questions t p len (length d) reached

  -- Refused before any byte is read: the buffer stays.
  number-leaves : (q : ℕ) → number ≡ suc q → (suc q ≡ 14 → ⊥) → Spanned t p len d reached bytes blocks (refused (suc q)) d
  unfolding buffer_after
  number-leaves q e other = record { answers = rw e; leaves = rw (e, ne_eqb (suc q) 0 (λ z. omega arith), ne_eqb (suc q) 14 other) }

  -- A tree that does not pass questions 5 to 7.
  pub span-unread : (x : Result Header Refusal) → x ≡ header_answer t → (q : Refusal) → x ≡ Err q
      → Spanned t p len d reached bytes blocks (refused (refusal_number q)) d
  unfolding span_questions
  span-unread x x-is q e =
      let z = header_refused t x x-is q e in
      let n : number ≡ suc z.0 = rw (ne_eqb (header_result t) 0 (λ y. omega arith)) z.1 in
      rw z.2 (number-leaves z.0 n (λ y. omega (arith, header-small t)))

  -- One that does.
  module _ (passes : header_result t ≡ 0) where
    pub span_past : at.text_length t < p + len → Spanned t p len d reached bytes blocks (refused 10) d
    unfolding span_questions
    span_past past = number-leaves 9 (rw (passes, lt-leb (p + len) (at.text_length t) past)) (λ z. omega arith)

    -- Question 10.
    module _ (within : p + len ≤ at.text_length t) where
      number-within : number ≡ ask 13 (leb len (length d)) (ask 14 reached 0)
      unfolding span_questions
      number-within = rw (passes, le-leb (p + len) (at.text_length t) within)

      pub no_room : length d < len → number ≡ 13
      no_room short = number-within ∙ rw (lt-leb len (length d) short)

      pub span_short : length d < len → Spanned t p len d reached bytes blocks (refused 13) d
      span_short short = number-leaves 12 (no_room short) (λ z. omega arith)

      -- All questions but 14.
      module _ (room : len ≤ length d) where
        pub number-in-room : number ≡ ask 14 reached 0
        number-in-room = number-within ∙ rw (le-leb len (length d) room)

        pub span-copied : (e : List ℕ) → true ≡ reached → e ≡ bytes ++ drop len d
            → Spanned t p len d reached bytes blocks (record { number = 0; value = len; entered = blocks }) e
        unfolding buffer_after
        span-copied e all is =
            let z : number ≡ 0 = rw (number-in-room, ← all) in
            record { answers = rw z; leaves = rw (z, is) }

        pub span-broken : (e : List ℕ) (q : ℕ)
            → q ≡ 14 → false ≡ reached → e ≡ replicate len 0 ++ drop len d → Spanned t p len d reached bytes blocks (refused q) e
        unfolding buffer_after
        span-broken e q q-is not-all is =
            let z : number ≡ 14 = rw (number-in-room, ← not-all) in
            record { answers = rw (z, q-is); leaves = rw (z, is) }
