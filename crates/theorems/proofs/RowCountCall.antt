-- row_count(tree): the number of rows. `Theorems` of its crate has the theorems on what it returns.
use Rattle.std.specs.Prelude.{Err}
use Rattle.refusals.specs.Refusals.{refusal_number}
use mathlib.Core.List.{List, [], ◌∷◌}
use mathlib.Core.Bool.{Bool, true, false, cond}
use mathlib.Core.Path.{◌≡◌, ap, ◌∙◌, refl}
use mathlib.Core.Logic.{◌⊎◌, inl, inr}
use Prim.Native.Nat.{ℕ, ◌+◌, ◌-◌, ◌≤◌, ◌<◌}
use native.Mathlib.Omega.{arith}
use contract.Lifetimes.{Lfts}
use lib.Dec.{eqb}
use borrow.Author.Tests.{eq-eqb, ne_eqb}
use Rattle.text.specs.ListLaws.{lt-or-ge}
use Rattle.format.specs.Layout as at
use Rattle.format.specs.TreeReading.{path_of, header_result, ask}
use Rattle.format.specs.Answers.{Answer, byte_answer, is_counted, number_of_byte, total}
use Rattle.format.specs.AnswerLaws.{unless-number}
use Rattle.theory_paths.specs.PlaceBytes.{byte-path}
use Rattle.query_rows.specs.RowAnswers.{row_count_refusal, last_open, row_count_answer}
use Rattle.theorems.specs.CallContracts.{Refusal}
use Rattle.theorems.specs.PublicFunctions.{row_count_function}
use Rattle.theorems.proofs.ByteCall.{byte_of-one}
use Rattle.theorems.proofs.PublicCall.{Call, Borrowed, call}
use Rattle.theorems.proofs.RefusalNumbers.{OneOf, not-zero, of_left, of_right, header-one}
use Rattle.query_rows.proofs.row_count.Met as row-count-met
-- What the contract allows: `CountOf κs tree r`.
pub use Rattle.query_rows.proofs.Theorems.{CountOf}

abbrev pub row_count_call : Call
row_count_call = call row_count_function row-count-met.met (λ 𝓤 𝓛 mem run κs a. (tt, refl))

-- For any bytes: a refusal is 5, 6, 7, 11 or 14.
last_one : (t : List ℕ) → header_result t ≡ 0 → OneOf (14 ∷ 0 ∷ []) (cond (eqb (at.text_length t) 0) 0 (byte_answer t (at.text_length t - 1)).number)
last_one t pass = go (lt-or-ge 0 (at.text_length t))
  where
    go : (0 < at.text_length t) ⊎ (at.text_length t ≤ 0) → OneOf (14 ∷ 0 ∷ []) (cond (eqb (at.text_length t) 0) 0 (byte_answer t (at.text_length t - 1)).number)
    go (inl some) =
        let p = at.text_length t - 1 in
        rw (ne_eqb (at.text_length t) 0 (λ e. omega arith), byte-path t pass p (omega arith)) (byte_of-one t (path_of t p))
    go (inr none) = let e : at.text_length t ≡ 0 = omega arith in rw (eq-eqb (at.text_length t) 0 e) (inr (inl refl))

call-rows-one : (t : List ℕ) → OneOf (5 ∷ 6 ∷ 7 ∷ 11 ∷ 14 ∷ 0 ∷ []) (row_count_refusal t)
unfolding row_count_refusal
call-rows-one t = go (lt-or-ge 0 (header_result t))
  where
    asked : (b : Bool) (m : ℕ) → OneOf (14 ∷ 0 ∷ []) m → OneOf (11 ∷ 14 ∷ 0 ∷ []) (ask 11 b m)
    asked true m h = inr h
    asked false m h = inl refl

    go : (0 < header_result t) ⊎ (header_result t ≤ 0) → OneOf (5 ∷ 6 ∷ 7 ∷ 11 ∷ 14 ∷ 0 ∷ []) (row_count_refusal t)
    go (inl l) =
        let one = not-zero (5 ∷ 6 ∷ 7 ∷ []) (header_result t) (omega arith) (header-one t) in
        rw (ne_eqb (header_result t) 0 (λ e. omega arith)) (of_left (5 ∷ 6 ∷ 7 ∷ []) (11 ∷ 14 ∷ 0 ∷ []) (header_result t) one)
    go (inr l) =
        let pass : header_result t ≡ 0 = omega arith in
        let last = cond (eqb (at.text_length t) 0) 0 (byte_answer t (at.text_length t - 1)).number in
        let one = asked (is_counted t 10) last (last_one t pass) in
        rw (eq-eqb (header_result t) 0 pass) (of_right (5 ∷ 6 ∷ 7 ∷ []) (11 ∷ 14 ∷ 0 ∷ []) (ask 11 (is_counted t 10) last) one)

pub row-count-numbers : (κs : Lfts 1) (t : Borrowed) (q : Refusal) → CountOf κs t (Err q) → OneOf (5 ∷ 6 ∷ 7 ∷ 11 ∷ 14 ∷ []) (refusal_number q)
unfolding row_count_answer
row-count-numbers κs t q a =
    let rows = total t.now (number_of_byte t.now 10) + cond (last_open t.now) 1 0 in
    let reply : Answer = record { number = 0; value = rows; entered = 0 } in
    let e : refusal_number q ≡ row_count_refusal t.now = ap (λ (s : Answer). s.number) a.answers ∙ unless-number (row_count_refusal t.now) reply refl in
    not-zero (5 ∷ 6 ∷ 7 ∷ 11 ∷ 14 ∷ []) (refusal_number q) a.numbered (rw e (call-rows-one t.now))
