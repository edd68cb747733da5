-- Demand 1 for list and for print: each terminates, accesses only the memory that it was given (`TotallyCorrect`), and has no precondition. List is refused
-- with 15, 5
-- to 9 or 13, and the buffer is then unchanged.
-- docs/FORMAT.md: "What is proved", "The list program".
use mathlib.Core.List.{List, [], ◌∷◌, ◌++◌}
use mathlib.Core.Bool.{Bool, true, false, cond}
use mathlib.Core.Path.{◌≡◌, refl, ◌∙◌}
use mathlib.Core.Logic.{inl, inr}
use Prim.Native.Nat.{ℕ}
use native.Mathlib.Omega.{arith}
use contract.Lifetimes.{Lfts}
use denote.Ref.{Bor, MutBor}
use lib.ListN.{length, drop}
use lib.Dec.{leb}
use borrow.Author.Tests.{ne_eqb}
use Rattle.format.specs.TreeReading.{check_result}
use Rattle.theory_accepted.specs.QuestionNumbers.{OneOf, asks-one, then_one, not-zero, checked-one, answers-refused, answers-answer}
use Rattle.theory_adequacy.specs.TotalCorrectness.{TotallyCorrect}
use Rattle.theory_adequacy.specs.Preconditions.{NoPrecondition, Call, call_of, Each, each-ends, each-asks-nothing}
use Rattle.list_lines.specs.ListedLines.{input_refusal, printed, max_input, list_refusal, list_answer, list_buffer}
use Rattle.std.specs.Prelude.{Result, Ok, Err}
use Rattle.refusals.specs.declared.Refusal.{Refusal}
use Rattle.refusals.specs.Refusals.{refusal_number}
use Rattle.list_lines.specs.contracts.list as list_of
use Rattle.list_lines.proofs.list.Symbol as list_at
use Rattle.list_lines.proofs.list.Met as list-met
use Rattle.list_lines.proofs.list.Reads as list-reads
use Rattle.list_lines.specs.contracts.print as print-of
use Rattle.list_lines.proofs.print.Symbol as print-at
use Rattle.list_lines.proofs.print.Met as print-met

abbrev pub calls : List Call
calls =
    call_of list_at.code list_at.name list_of.signature (λ 𝓤 𝓛. list_of.spec 𝓛) list-met.met (λ 𝓤 𝓛 mem run κs a. (tt, refl))
    ∷ call_of print-at.code print-at.name print-of.signature (λ 𝓤 𝓛. print-of.spec 𝓛) print-met.met (λ 𝓤 𝓛 mem run κs a. (tt, refl))
    ∷ []

pub every-call-ends : Each TotallyCorrect calls
every-call-ends = each-ends calls

pub no-preconditions : Each NoPrecondition calls
no-preconditions = each-asks-nothing calls

-- r is an answer that the contract of `list` allows to a call with these arguments, which leaves the buffer `out` as `after`
abbrev pub Lists : (κs : Lfts 2) (t : Bor (List ℕ)) (out after : MutBor (List ℕ)) → Result ℕ Refusal → Type 0
Lists κs t out after r = list-reads.Post κs (t, (out, tt)) r (t, (after, tt))

-- The numbers that its questions can give.
list-one : (t : List ℕ) (room : ℕ) → OneOf (15 ∷ 5 ∷ 6 ∷ 7 ∷ 8 ∷ 9 ∷ 13 ∷ 0 ∷ []) (list_refusal t room)
unfolding list_refusal input_refusal
list-one t room =
    then_one (15 ∷ 5 ∷ 6 ∷ 7 ∷ 8 ∷ 9 ∷ []) (13 ∷ 0 ∷ []) _ _ (input (leb (length t) max_input)) (asks-one ((13, leb (length (printed t)) room) ∷ []))
  where
    input : (b : Bool) → OneOf (15 ∷ 5 ∷ 6 ∷ 7 ∷ 8 ∷ 9 ∷ 0 ∷ []) (cond b (check_result t) 15)
    input true = inr (checked-one t)
    input false = inl refl

module _ (κs : Lfts 2) (t : Bor (List ℕ)) (out after : MutBor (List ℕ)) where
  -- A refusal is 15, 5 to 9 or 13.
  pub list-numbers : (q : Refusal) → Lists κs t out after (Err q) → OneOf (15 ∷ 5 ∷ 6 ∷ 7 ∷ 8 ∷ 9 ∷ 13 ∷ []) (refusal_number q)
  unfolding list_answer
  list-numbers q a =
      let e = answers-refused (refusal_number q) (list_refusal t.now (length out.now)) _ 0 a.0.numbered a.0.answers in
      not-zero (15 ∷ 5 ∷ 6 ∷ 7 ∷ 8 ∷ 9 ∷ 13 ∷ []) (refusal_number q) a.0.numbered (rw e (list-one t.now (length out.now)))

  -- A refusal leaves the buffer unchanged.
  pub list-unchanged : (q : Refusal) → Lists κs t out after (Err q) → after.now ≡ out.now
  unfolding list_answer list_buffer
  list-unchanged q a =
      let e = answers-refused (refusal_number q) (list_refusal t.now (length out.now)) _ 0 a.0.numbered a.0.answers in
      a.1 ∙ rw (← e, ne_eqb (refusal_number q) 0 (λ z. omega (arith, a.0.numbered)))

  -- The result is the length of what the list program prints. The buffer begins with these bytes, and those after them are unchanged.
  pub list-answer : (size : ℕ) → Lists κs t out after (Ok size)
      → (size ≡ length (printed t.now)) × (after.now ≡ printed t.now ++ drop (length (printed t.now)) out.now)
  unfolding list_answer list_buffer
  list-answer size a =
      let w = answers-answer size 0 (list_refusal t.now (length out.now)) (length (printed t.now)) 0 a.0.answers in
      (w.1, a.1 ∙ rw w.0)
