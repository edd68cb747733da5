-- Count, find and row: their answers as numbers, also for a number above 255.
use Rattle.std.specs.Prelude.{Result, Ok, Err}
use Rattle.refusals.specs.declared.Refusal.{Refusal}
use Rattle.refusals.specs.Refusals.{refusal_number}
use mathlib.Core.List.{List}
use mathlib.Core.Bool.{Bool, true, false, cond}
use mathlib.Core.Path.{◌≡◌, refl, sym, ap, subst, ◌∙◌}
use Prim.Native.Nat.{ℕ, zero, suc, ◌+◌, ◌≤◌, ◌<◌}
use native.Mathlib.Omega.{arith}
use borrow.Author.Tests.{le-leb, ne_eqb}
use lib.ListN.{get_or, take, drop}
use lib.Seq.{get_or-take, get_or-drop}
use lib.Dec.{leb, eqb}
use Rattle.format.specs.Layout.{max_counted, counted_at}
use Rattle.format.specs.Answers.{Answer, refused, unless, replied, answer_with, is_counted, number_of_byte, count_answer, find_refusal, RowBy}
use Rattle.format.specs.Layout as at
use Rattle.format.specs.TreeReading.{ask, header_result}
use Rattle.format.specs.LayoutLaws.{header-facts}
use Rattle.format.specs.FindAnswerLaws.{FindAnswers}
use Rattle.theory_counts.specs.CountsLocal.{byte_of}
use Rattle.theory_counts.specs.Ranks as ranks
use Rattle.query_rank.specs.Counts.{uncounted_refusal}
use Rattle.query_select.specs.Found.{find_reply}
use Rattle.text.specs.declared.TextPlace.{TextPlace}

module _ (t : List ℕ) (byte j : ℕ) (r : Result (TextPlace × ℕ) Refusal) (k : FindAnswers t byte j (replied (find_reply r))) where
  pub find-answered : (place : TextPlace) (entered : ℕ) → r ≡ Ok (place, entered) → FindAnswers t byte j (answer_with 0 place.0 entered)
  find-answered place entered e = subst (λ (x : Result (TextPlace × ℕ) Refusal). FindAnswers t byte j (replied (find_reply x))) e k

  pub find-refused : (q : Refusal) → r ≡ Err q → FindAnswers t byte j (answer_with (refusal_number q) 0 0)
  find-refused q e = subst (λ (x : Result (TextPlace × ℕ) Refusal). FindAnswers t byte j (replied (find_reply x))) e k

-- A row by its number and length.
pub row_by : (t : List ℕ) (ok q : ℕ) (buffer after : List ℕ) (s : Answer) (number size : ℕ) → answer_with number size 0 ≡ s
    → RowBy t ok q buffer s.number s.value after → RowBy t ok q buffer number size after
row_by t ok q buffer after s number size e k = subst (λ (x : Answer). RowBy t ok q buffer x.number x.value after) (sym e) k

-- For a number above 255.

export-not-zero : (n : ℕ) → eqb (suc n) 0 ≡ false
export-not-zero n = ne_eqb (suc n) 0 (λ e. omega arith)

above-answer : (n : ℕ) (b c : Bool) (s : Answer) → (n ≡ 0 → c ≡ false) → refused (cond (eqb n 0) (ask 10 b 11) n) ≡ unless n (unless (ask 10 b (ask 11 c 0)) s)
above-answer zero true c s h = rw (h refl)
above-answer zero false c s h = refl
above-answer (suc n) b c s h = rw (export-not-zero n)

above-asked : (n : ℕ) (b c : Bool) (rest : ℕ) → b ≡ true → (n ≡ 0 → c ≡ false) → cond (eqb n 0) (ask 10 b 11) n ≡ cond (eqb n 0) (ask 11 c rest) n
above-asked zero b c rest e h = rw (e, h refl)
above-asked (suc n) b c rest e h = rw (export-not-zero n)

above-refused : (n : ℕ) (b : Bool) → 0 < cond (eqb n 0) (ask 10 b 11) n
above-refused zero true = omega arith
above-refused zero false = omega arith
above-refused (suc n) b = rw (export-not-zero n) (let z : 0 < suc n = omega arith in z)

-- No byte of a tree is above 255.
module _ (t : List ℕ) (bytes : (k : ℕ) → get_or t k 0 < 256) (byte : ℕ) (high : 255 < byte) where
  counted-byte : (x : ℕ) → x < at.counted_count t → at.counted_count t ≤ max_counted → byte_of t x ≡ get_or t (counted_at + x) 0
  unfolding byte_of at.settings
  counted-byte x h k =
      let low : x < max_counted = omega arith in
      get_or-take (at.counted_count t) (take max_counted (drop counted_at t)) x 0 h ∙ get_or-take max_counted (drop counted_at t) x 0 low ∙ get_or-drop counted_at t x 0

  not-counted : header_result t ≡ 0 → is_counted t byte ≡ false
  not-counted z = decide (is_counted t byte) refl
    where
      decide : (b : Bool) → is_counted t byte ≡ b → b ≡ false
      decide true e =
          let k = header-facts t z in
          let d = ranks.counted t k byte e in
          absurd (omega (
            arith,
            d.byte_is,
            counted-byte (number_of_byte t byte) d.number_below k.bounds.counted_high,
            bytes (counted_at + number_of_byte t byte),
          ))
      decide false e = refl

  pub count-above : (i r : ℕ) → r ≡ uncounted_refusal t i → answer_with r 0 0 ≡ count_answer t byte i
  unfolding count_answer uncounted_refusal
  count-above i r e = rw e (above-answer (header_result t) (leb i (at.text_length t)) (is_counted t byte) _ not-counted)

  pub select-above : (j : ℕ) → uncounted_refusal t 0 ≡ find_refusal t byte j
  unfolding find_refusal uncounted_refusal
  select-above j = above-asked (header_result t) (leb 0 (at.text_length t)) (is_counted t byte) _ (le-leb 0 (at.text_length t) (omega arith)) not-counted

  pub refuses-above : (j : ℕ) → 0 < find_refusal t byte j
  unfolding uncounted_refusal
  refuses-above j = rw (← select-above j) (above-refused (header_result t) (leb 0 (at.text_length t)))

  pub find-above : (j r : ℕ) → r ≡ uncounted_refusal t 0 → FindAnswers t byte j (answer_with r 0 0)
  find-above j r e = record {
    asked = λ h. ap refused (e ∙ select-above j);
    accepted = λ z a. absurd (omega (arith, refuses-above j));
    free = λ z a. absurd (omega (arith, refuses-above j));
  }
