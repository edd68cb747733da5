-- The size of a table: each of the questions, and that it is enough.
use Rattle.std.specs.Prelude.{Result, Err}
use Rattle.refusals.specs.declared.Refusal.{Refusal}
use Rattle.refusals.specs.Refusals.{refusal_number}
use Rattle.refusals.specs.RefusalsLaws.{number-above}
use mathlib.Core.List.{List}
use mathlib.Core.Path.{◌≡◌, sym, ap, ◌∙◌}
use Prim.Native.Nat.{ℕ, ◌+◌, ◌-◌, ◌≤◌, ◌<◌}
use borrow.Author.Tests.{le-leb, lt-leb, leb-true}
use lib.ListN.{length}
use lib.Dec.{leb}
use mathlib.Core.Bool.{◌&&◌}
use Rattle.text.specs.ListLaws.{and_left, and_right}
use Rattle.format.specs.Layout as at
use Rattle.format.specs.TreeReading.{text_of, ask, header_result}
use Rattle.format.specs.Answers.{Answer, refused, unless, NeverZero, replied}
use Rattle.format.specs.AnswerLaws.{unless-refused, unless-passes}
use Rattle.format.specs.LayoutLaws.{ask-test}
use Rattle.theory_paths.specs.OneText.{text-length}
use Rattle.layout.specs.declared.header.Header.{Header}
use Rattle.layout.specs.Header.{header_answer}
use Rattle.layout.specs.HeaderFields.{HeaderOf, header_refused}
use Rattle.query_places.specs.Places.{max_pattern, occurs_at, places_of, words_for, places_words_answer, places_words_reply, IsPlacesWordsAnswer}
use Rattle.query_places.specs.TableFilled.{so_far}
use Rattle.query_places.proofs.PatternSeekLaws.{below-few, so-far-end}

module _ (n len : ℕ) where
  pub no_byte : len < 1 → refused 16 ≡ words_for n len
  unfolding words_for
  no_byte h = rw (lt-leb 1 len h)

  module _ (low : 1 ≤ len) where
    pub too_long : max_pattern < len → refused 16 ≡ words_for n len
    unfolding words_for
    too_long h = rw (le-leb 1 len low, lt-leb len max_pattern h)

    pub words_are : len ≤ max_pattern → (w : ℕ) → w ≡ n + 1 - len → record { number = 0; value = w; entered = 0 } ≡ words_for n len
    unfolding words_for
    words_are high w e = rw (le-leb 1 len low, le-leb len max_pattern high, e)

module _ (t : List ℕ) (len : ℕ) where
  -- A tree that passes questions 5 to 7, and one that does not.
  pub answered : (h : Header) → HeaderOf t h → (r : Result ℕ Refusal) → (replied (places_words_reply r) ≡ words_for h.text_length len)
      × NeverZero (places_words_reply r)
      → IsPlacesWordsAnswer t len r
  unfolding places_words_answer
  answered h k r e = record { answers = rw k.passes (e.0 ∙ ap (λ (n : ℕ). words_for n len) k.length_is); numbered = e.1 }

  pub unread : (x : Result Header Refusal) → x ≡ header_answer t → (q : Refusal) → x ≡ Err q → IsPlacesWordsAnswer t len (Err q)
  unfolding places_words_answer
  unread x x-is q e =
      let z = header_refused t x x-is q e in
      record { answers = unless-refused (header_result t) z.0 (refusal_number q) (words_for (at.text_length t) len) z.1 z.2; numbered = number-above q }

-- A pattern has no more places than that.
pub places-few : (t P : List ℕ) → 1 ≤ length P → length (places_of t P) ≤ at.text_length t + 1 - length P
unfolding so_far
places-few t P some_byte =
    let n = at.text_length t in
    rw (← so-far-end t P some_byte n (sym (text-length t))) (below-few (n + 1 - length P) (occurs_at P (text_of t)))

-- What is known where a size is answered.
pub record WordsAnswered (t : List ℕ) (len words : ℕ) : Type 0 where
  pub pass : header_result t ≡ 0
  pub low : 1 ≤ len
  pub high : len ≤ max_pattern
  pub words_are : words ≡ at.text_length t + 1 - len

pub words-answered : (t : List ℕ) (len words : ℕ) → record { number = 0; value = words; entered = 0 } ≡ places_words_answer t len → WordsAnswered t len words
unfolding places_words_answer words_for
words-answered t len words e =
    let reply : Answer = record { number = 0; value = at.text_length t + 1 - len; entered = 0 } in
    let asked = ask 16 (leb 1 len && leb len max_pattern) 0 in
    let a = unless-passes (header_result t) (unless asked reply) (sym (ap (λ (s : Answer). s.number) e)) in
    let b = unless-passes asked reply a.1 in
    let ok = ask-test 15 (leb 1 len && leb len max_pattern) 0 b.0 in
    let is : record { number = 0; value = words; entered = 0 } ≡ reply = rw (a.0, b.0) at e in
    record {
      pass = a.0;
      low = leb-true 1 len (and_left (leb 1 len) (leb len max_pattern) ok);
      high = leb-true len max_pattern (and_right (leb 1 len) (leb len max_pattern) ok);
      words_are = ap (λ (s : Answer). s.value) is;
    }
