-- The refusal and the figures of an answer, by its variants.
use Rattle.std.specs.Prelude.{Result, Ok, Err}
use Rattle.refusals.specs.declared.Refusal.{Refusal}
use Rattle.refusals.specs.Refusals.{refusal_number}
use mathlib.Core.List.{List}
use mathlib.Core.Option.{Option, none, some}
use mathlib.Core.Bool.{Bool, true, false, cond}
use mathlib.Core.Path.{◌≡◌, refl, sym, ap, ◌∙◌}
use Prim.Native.Nat.{ℕ, ◌-◌, ◌≤◌, min}
use native.Mathlib.Omega.{arith}
use borrow.Author.Tests.{eqb-true}
use lib.Dec.{eqb}
use Rattle.format.specs.Layout.{max_text}
use Rattle.format.specs.Answers.{Answer, Reply, replied, byte_answer, run_of, run_answer, span_answer}
use Rattle.format.specs.AnswerLaws.{unless-passes}
use Rattle.format.specs.Layout as at
use Rattle.format.specs.TreeReading.{Path, path_of, header_result}
use Rattle.format.specs.LayoutLaws.{header-facts}
use Rattle.theory_paths.specs.Shift.{left-most}
use Rattle.query_access.specs.ReadAnswers.{span_reply, IsSpanAnswer}
use Rattle.build_by_search.specs.BuildAnswer.{build_reply}

-- The reply of an answer that is known.
pub reply-is : {R : Type 0} (reply : R → Reply) (r x : R) (s : Answer) → replied (reply r) ≡ s → r ≡ x → replied (reply x) ≡ s
reply-is reply r x s is e = sym (ap (λ y. replied (reply y)) e) ∙ is

-- build

module _ (r : Result ℕ Refusal) (number size : ℕ) (n-is : (replied (build_reply r)).number ≡ number) (s-is : (replied (build_reply r)).value ≡ size) where
  pub build-answered : (n : ℕ) → r ≡ Ok n → (0 ≡ number) × (n ≡ size)
  build-answered n e = (
    sym (ap (λ (x : Result ℕ Refusal). (replied (build_reply x)).number) e)
        ∙ n-is,
    sym (ap (λ (x : Result ℕ Refusal). (replied (build_reply x)).value) e) ∙ s-is,
  )

  pub build-refused : (q : Refusal) → r ≡ Err q → (refusal_number q ≡ number) × (0 ≡ size)
  build-refused q e = (
    sym (ap (λ (x : Result ℕ Refusal). (replied (build_reply x)).number) e)
        ∙ n-is,
    sym (ap (λ (x : Result ℕ Refusal). (replied (build_reply x)).value) e) ∙ s-is,
  )

-- run: no longer than the longest text

byte-header : (t : List ℕ) (p : ℕ) → (byte_answer t p).number ≡ 0 → header_result t ≡ 0
unfolding byte_answer
byte-header t p e = (unless-passes (header_result t) _ e).0

path-short : (t : List ℕ) (p : ℕ) (o : Option Path) → (run_of t p o).1 ≤ at.text_length t
path-short t p none = omega arith
path-short t p (some q) = omega (arith, left-most t q.visits (min (at.text_length t - p) (at.leaf_count t - q.leaf)))

part-short : (b : Bool) (part : ℕ × ℕ) (most : ℕ) → (b ≡ true → part.1 ≤ most) → (cond b part (0, 0)).1 ≤ most
part-short true part most h = h refl
part-short false part most h = omega arith

pub run_short : (t : List ℕ) (p : ℕ) → (run_answer t p).1 ≤ max_text
unfolding run_answer
run_short t p =
    part-short (eqb (byte_answer t p).number 0) (run_of t p (path_of t p)) max_text
    (λ e. omega (arith, path-short t p (path_of t p), (header-facts t (byte-header t p (eqb-true _ 0 e))).bounds.text_high))

-- span

module _ (t : List ℕ) (p len room : ℕ) (r : Result (ℕ × ℕ) Refusal) (k : IsSpanAnswer t p len room r) where
  pub span-answered : (n entered : ℕ) → r ≡ Ok (n, entered) → (0 ≡ (span_answer t p len room).number) × (entered ≡ (span_answer t p len room).entered)
  span-answered n entered e = let z = sym (ap (λ (x : Result (ℕ × ℕ) Refusal). replied (span_reply x)) e) ∙ k.answers in
      (ap (λ (s : Answer). s.number) z, ap (λ (s : Answer). s.entered) z)

  pub span-refused : (q : Refusal) → r ≡ Err q → (refusal_number q ≡ (span_answer t p len room).number) × (0 ≡ (span_answer t p len room).entered)
  span-refused q e = let z = sym (ap (λ (x : Result (ℕ × ℕ) Refusal). replied (span_reply x)) e)
      ∙ k.answers in (ap (λ (s : Answer). s.number) z, ap (λ (s : Answer). s.entered) z)
