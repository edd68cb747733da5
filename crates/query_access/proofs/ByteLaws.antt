-- Byte and run, where they are refused, and the part that a run is.
use Rattle.std.specs.Prelude.{Result, Ok, Err}
use Rattle.refusals.specs.declared.Refusal.{Refusal}
use Rattle.refusals.specs.Refusals.{refusal_number}
use Rattle.refusals.specs.RefusalsLaws.{number-above}
use mathlib.Core.List.{List, []}
use mathlib.Core.Path.{◌≡◌, sym, ap}
use Prim.Native.Nat.{ℕ, ◌+◌, ◌-◌, ◌≤◌}
use native.Mathlib.Omega.{arith}
use native.Mathlib.Nat.{add-sub_cancel_left}
use borrow.Author.Tests.{le-ltb, ne_eqb}
use lib.ListN.{take, drop}
use Rattle.format.specs.Layout as at
use Rattle.format.specs.TreeReading.{header_result}
use Rattle.format.specs.Answers.{Answer, refused, byte_answer, run_answer}
use Rattle.format.specs.AnswerLaws.{unless-refused}
use Rattle.layout.specs.declared.header.Header.{Header}
use Rattle.layout.specs.Header.{header_answer}
use Rattle.query_access.specs.declared.read_by_header.TreeRange.{TreeRange}
use Rattle.layout.specs.HeaderFields.{HeaderOf, header_refused}
use Rattle.query_access.specs.ReadAnswers.{IsRunAnswer}

-- A refused place has no run.
pub run_none : (t : List ℕ) (p : ℕ) (q : Refusal) → refused (refusal_number q) ≡ byte_answer t p → IsRunAnswer t p (Err q)
unfolding run_answer
run_none t p q e =
    let n : refusal_number q ≡ (byte_answer t p).number = ap (λ (y : Answer). y.number) e in
    let low = number-above q in
    let z : run_answer t p ≡ (0, 0) = rw (ne_eqb (byte_answer t p).number 0 (λ y. omega arith)) in record {
      number_is = n;
      numbered = low;
      from_is = sym (ap (λ (y : ℕ × ℕ). y.0) z);
      length_is = sym (ap (λ (y : ℕ × ℕ). y.1) z);
      inside = omega arith;
    }

module _ (t : List ℕ) (p : ℕ) where
  module _ (h : Header) (k : HeaderOf t h) where
    pub byte_past : h.text_length ≤ p → refused 10 ≡ byte_answer t p
    unfolding byte_answer
    byte_past past = rw (k.passes, le-ltb p (at.text_length t) (omega (arith, k.length_is)))

-- A tree that does not pass questions 5 to 7.
module _ (t : List ℕ) (p : ℕ) (x : Result Header Refusal) (x-is : x ≡ header_answer t) (q : Refusal) (e : x ≡ Err q) where
  pub byte-unread : refused (refusal_number q) ≡ byte_answer t p
  unfolding byte_answer
  byte-unread =
      let z = header_refused t x x-is q e in
      unless-refused (header_result t) z.0 (refusal_number q) _ z.1 z.2

  pub run-unread : IsRunAnswer t p (Err q)
  run-unread = run_none t p q byte-unread

-- The returned slice.
module _ (t : List ℕ) (p : ℕ) (r : Result TreeRange Refusal) (k : IsRunAnswer t p r) where
  pub part-answered : (part : TreeRange) → r ≡ Ok part → IsRunAnswer t p (Ok part)
  part-answered part e = rw e at k

  pub part-refused : (q : Refusal) → r ≡ Err q → IsRunAnswer t p (Err q)
  part-refused q e = rw e at k

pub part-list : (t : List ℕ) (p : ℕ) (r : TreeRange)
    → IsRunAnswer t p (Ok r) → take (r.from + r.length - r.from) (drop r.from t) ≡ take (run_answer t p).1 (drop (run_answer t p).0 t)
part-list t p r k = rw (add-sub_cancel_left, k.from_is, k.length_is)

pub part-empty : (t : List ℕ) (p : ℕ) (q : Refusal) → IsRunAnswer t p (Err q) → [] ≡ take (run_answer t p).1 (drop (run_answer t p).0 t)
part-empty t p q k = rw (← k.length_is)
