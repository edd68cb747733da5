-- run(tree, place): a part of the tree that is the text from a place on; run_range returns where it is.
use Rattle.std.specs.Prelude.{Result, Ok, Err}
use Rattle.refusals.specs.Refusals.{refusal_number}
use Rattle.refusals.specs.RefusalsLaws.{number-above}
use mathlib.Core.List.{[], ◌∷◌}
use mathlib.Core.Path.{◌≡◌, sym, ap, refl}
use Prim.Native.Nat.{ℕ, ◌+◌, ◌≤◌}
use native.Mathlib.Omega.{arith}
use contract.Lifetimes.{Lfts}
use lib.ListN.{length, take, drop}
use borrow.Author.Tests.{ne_eqb}
use Rattle.text.specs.declared.TextPlace.{TextPlace}
use Rattle.format.specs.Layout as at
use Rattle.format.specs.TreeReading.{text_of, check_result}
use Rattle.format.specs.CheckResultLaws.{accepted-header, accepted-links}
use Rattle.format.specs.Answers.{Answer, byte_answer, run_answer}
use Rattle.theory_paths.specs.Theorems as paths
use Rattle.query_access.proofs.Theorems as access
use Rattle.query_access.specs.declared.read_by_header.TreeRange.{TreeRange}
use Rattle.theorems.specs.CallContracts.{Refusal}
use Rattle.theorems.specs.Promises.{RunAnswers, RunRefuses}
use Rattle.theorems.specs.PublicFunctions.{run_function, run_range_function}
use Rattle.theorems.proofs.AcceptedTree.{below, text-size}
use Rattle.theorems.proofs.ByteCall.{Byte, byte_one, byte-reached, byte-ten}
use Rattle.theorems.proofs.PublicCall.{Call, Borrowed, call}
use Rattle.theorems.proofs.RefusalNumbers.{OneOf, not-zero}
use Rattle.query_access.proofs.run.Met as run-met
use Rattle.query_access.proofs.run_range.Met as run-range-met
use Rattle.query_access.proofs.run_range.Reads as run-range-reads
-- What the contract of `run` allows: `Run κs tree place part`.
pub use Rattle.theorems.specs.CallContracts.{Run}

-- What the contract of `run_range` allows.
abbrev pub RunRange : (κs : Lfts 1) → Borrowed → TextPlace → Result TreeRange Refusal → Type 0
RunRange κs t p r = run-range-reads.Post κs (t, (p, tt)) r (t, (p, tt))

abbrev pub run_call : Call
run_call = call run_function run-met.met (λ 𝓤 𝓛 mem run κs a. (tt, refl))

abbrev pub run_range_call : Call
run_range_call = call run_range_function run-range-met.met (λ 𝓤 𝓛 mem run κs a. (tt, refl))

-- For any bytes; κ is the lifetime of byte, κs that of run.
module _ (κ κs : Lfts 1) (t : Borrowed) (p : TextPlace) (r : Borrowed) where
  -- If byte is not refused, run returns a part of the tree, of one byte or more.
  pub run-answer : (v e : ℕ) → Byte κ t p (Ok (v, e)) → Run κs t p r
      → (from : ℕ) × (size : ℕ) × (1 ≤ size) × (from + size ≤ length t.now)
      × (r.ref_ptr ≡ (t.ref_ptr.0, t.ref_ptr.1 + from)) × (r.now ≡ take size (drop from t.now))
  run-answer v e b a =
      let w = byte-reached t.now p.0 (sym (ap (λ (s : Answer). s.number) b)) in
      let k = paths.run-by-path t.now w.pass p.0 w.path w.path_is w.low in
      ((run_answer t.now p.0).0, (run_answer t.now p.0).1, k.some_byte, k.in_tree, a.1, a.0)

  -- If byte is refused, run returns an empty part.
  pub run-empty : (q : Refusal) → Byte κ t p (Err q) → Run κs t p r → r.now ≡ []
  unfolding run_answer
  run-empty q b a =
      let e : (byte_answer t.now p.0).number ≡ refusal_number q = sym (ap (λ (s : Answer). s.number) b) in
      let z = ne_eqb (byte_answer t.now p.0).number 0 (λ x. omega (arith, number-above q)) in
      rw z at a.0

-- A refusal of `run_range` is 5, 6, 7, 10 or 14, as byte's is.
pub run-range-numbers : (κs : Lfts 1) (t : Borrowed) (p : TextPlace) (q : Refusal) → RunRange κs t p (Err q)
    → OneOf (5 ∷ 6 ∷ 7 ∷ 10 ∷ 14 ∷ []) (refusal_number q)
run-range-numbers κs t p q a = not-zero (5 ∷ 6 ∷ 7 ∷ 10 ∷ 14 ∷ []) (refusal_number q) a.numbered (rw a.number_is (byte_one t.now p.0))

-- Any tree that the check accepts, and the one text that fits it.
module _ (t : Borrowed) (v : check_result t.now ≡ 0) where
  pub accepted-answers : RunAnswers t (at.settings t.now) (text_of t.now)
  accepted-answers = record {
    run_of = λ κs p r a h.
        let w = access.run-slices t (accepted-header t.now v) (accepted-links t.now v) κs p r (below t.now v h) a in
        (w.from, w.size, w.some_byte, w.in_tree, w.place, w.of_tree, omega (arith, w.in_text, text-size t.now v), w.of_text);
  }

  past : (κs : Lfts 1) (p : TextPlace) (r : Borrowed) → Run κs t p r → length (text_of t.now) ≤ p.0 → r.now ≡ []
  unfolding run_answer
  past κs p r a h = rw (byte-ten t.now v p.0 h) at a.0

  pub accepted-refuses : RunRefuses t (at.settings t.now) (text_of t.now)
  accepted-refuses = record { run_past = past }
