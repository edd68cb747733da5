-- Count, from the sums of a path.
use mathlib.Core.List.{List}
use mathlib.Core.Option.{Option, none, some}
use mathlib.Core.Path.{◌≡◌, refl, sym, ap, ◌∙◌}
use Prim.Native.Nat.{ℕ, ◌-◌, ◌/◌, ◌%◌, ◌≤◌, ◌<◌}
use native.Mathlib.Omega.{arith}
use borrow.Author.Tests.{lt-leb, le-leb, ne_eqb}
use Rattle.format.specs.Layout as at
use Rattle.format.specs.TreeReading.{Path, path_of, header_result}
use Rattle.format.specs.Answers.{Answer, refused, count_of, number_of_byte, count_answer}
use Rattle.format.specs.AnswerLaws.{unless-refused}
use Rattle.layout.specs.declared.header.Header.{Header}
use Rattle.std.specs.Prelude.{Result, Err}
use Rattle.refusals.specs.declared.Refusal.{Refusal}
use Rattle.refusals.specs.Refusals.{refusal_number}
use Rattle.layout.specs.Header.{header_answer}
use Rattle.layout.specs.HeaderFields.{HeaderOf, header_refused}
use Rattle.query_rank.specs.Sums.{whole_sum, settled, answer_in}
use Rattle.query_counted.proofs.TotalLaws.{not-counted, is-counted}
use Rattle.query_rank.proofs.SumsLaws.{rank-broken-word}

-- The finished count.

pub answer-broken : (w : ℕ) → w ≡ 18446744073709551615 → refused 14 ≡ answer_in w
answer-broken w e = rank-broken-word ∙ ap answer_in (sym e)

pub answer_word : (w : ℕ) → (w ≡ 18446744073709551615 → ⊥) → record { number = 0; value = w % 281474976710656; entered = w / 281474976710656 } ≡ answer_in w
unfolding answer_in
answer_word w ne = rw (ne_eqb w 18446744073709551615 ne)

settled-whole : (t : List ℕ) (byte c : ℕ) (r : Option Path) → settled (whole_sum t byte c r) ≡ count_of t byte c r
unfolding settled whole_sum
settled-whole t byte c none = refl
settled-whole t byte c (some q) = refl

-- Each way out of count.
module _ (t : List ℕ) (h : Header) (k : HeaderOf t h) (byte i : ℕ) where
  pub count_past : h.text_length < i → refused 10 ≡ count_answer t byte i
  unfolding count_answer
  count_past past = rw (k.passes, lt-leb i (at.text_length t) (omega (arith, k.length_is)))

  module _ (low : i ≤ h.text_length) (number : ℕ) (is : number ≡ number_of_byte t byte) where
    pub count_none : h.settings.counted ≤ number → refused 11 ≡ count_answer t byte i
    unfolding count_answer
    count_none past = rw (k.passes, le-leb i (at.text_length t) (omega (arith, k.length_is)), not-counted t h k byte number is past)

    module _ (counted : number < h.settings.counted) where
      pub count-nothing : i ≡ 0 → record { number = 0; value = 0; entered = 0 } ≡ count_answer t byte i
      unfolding count_answer
      count-nothing z = rw (k.passes, le-leb i (at.text_length t) (omega (arith, k.length_is)), is-counted t h k byte number is counted, z)

      pub count-walked : (i ≡ 0 → ⊥) → (s : Answer) → s ≡ settled (whole_sum t byte number (path_of t (i - 1))) → s ≡ count_answer t byte i
      unfolding count_answer
      count-walked n s e =
          rw (k.passes, le-leb i (at.text_length t) (omega (arith, k.length_is)), is-counted t h k byte number is counted, ne_eqb i 0 n)
          (e ∙ settled-whole t byte number (path_of t (i - 1)) ∙ rw is)

-- A tree that does not pass questions 5 to 7.
pub count-unread : (t : List ℕ) (byte i : ℕ) (x : Result Header Refusal) → x ≡ header_answer t
    → (q : Refusal) → x ≡ Err q → refused (refusal_number q) ≡ count_answer t byte i
unfolding count_answer
count-unread t byte i x x-is q e =
    let z = header_refused t x x-is q e in
    unless-refused (header_result t) z.0 (refusal_number q) _ z.1 z.2
