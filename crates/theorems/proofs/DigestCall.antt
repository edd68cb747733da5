-- digest(tree, out): the SHA-256 of a tree's text; digest_text(text, out): the SHA-256 of a text.
use Rattle.std.specs.Prelude.{⊤, Result, Err}
use Rattle.refusals.specs.declared.Refusal.TheVariants.{PathBroken}
use Rattle.refusals.specs.Refusals.{refusal_number, result_refusal}
use Rattle.refusals.specs.RefusalsLaws.{number-above, one-number}
use mathlib.Core.List.{List, [], ◌∷◌, ◌++◌}
use mathlib.Core.Bool.{Bool, true, false, cond}
use mathlib.Core.Path.{◌≡◌, refl, sym, ap, ◌∙◌}
use mathlib.Core.Logic.{inl, inr}
use Prim.Native.Nat.{ℕ}
use native.Mathlib.Omega.{arith}
use contract.Lifetimes.{Lfts}
use lib.ListN.{length, drop, replicate}
use lib.Dec.{leb}
use borrow.Author.Tests.{ne_eqb}
use Rattle.format.specs.Layout as at
use Rattle.format.specs.TreeReading.{text_of, header_result, check_result}
use Rattle.format.specs.CheckResultLaws.{accepted-header}
use Rattle.format.specs.Answers.{paths_hold, buffer_after}
use Rattle.theory_accepted.specs.AcceptedTrees.{accepted-represents}
use Rattle.sha256.specs.Sha256.{digest_text_refusal}
use Rattle.query_digest.specs.Digest.{digest_refusal, digest_buffer}
use Rattle.query_digest.proofs.Theorems as digests
use Rattle.theorems.specs.CallContracts.{Refusal}
use Rattle.theorems.specs.Promises.{DigestAnswers, DigestRefuses}
use Rattle.theorems.specs.PublicFunctions.{digest_function, digest_text_function}
use Rattle.theorems.proofs.PublicCall.{Call, Borrowed, BorrowedMut, call}
use Rattle.theorems.proofs.RefusalNumbers.{OneOf, asks-one, header-one, then_one}
use Rattle.query_digest.proofs.digest.Met as digest-met
use Rattle.sha256.proofs.digest_text.Met as digest-text-met
-- What the contracts allow, with the buffer left as `after`: `Digest κs tree out after r`, `DigestText κs text out after r`.
pub use Rattle.theorems.specs.CallContracts.{Digest}
pub use Rattle.sha256.proofs.Theorems.{DigestText}

abbrev pub digest_call : Call
digest_call = call digest_function digest-met.met (λ 𝓤 𝓛 mem run κs a. (tt, refl))

abbrev pub digest_text_call : Call
digest_text_call = call digest_text_function digest-text-met.met (λ 𝓤 𝓛 mem run κs a. (tt, refl))

-- Any bytes.

-- The numbers that digest can return.
digest-one : (t : List ℕ) (room : ℕ) → OneOf (5 ∷ 6 ∷ 7 ∷ 13 ∷ 14 ∷ 0 ∷ []) (digest_refusal t room)
unfolding digest_refusal
digest-one t room =
    then_one (5 ∷ 6 ∷ 7 ∷ []) (13 ∷ 14 ∷ 0 ∷ []) (header_result t) _ (header-one t)
    (asks-one ((13, leb 32 room) ∷ (14, paths_hold t 0 (at.text_length t)) ∷ []))

text-one : (room : ℕ) → OneOf (13 ∷ 0 ∷ []) (digest_text_refusal room)
unfolding digest_text_refusal
text-one room = go (leb 32 room)
  where
    go : (b : Bool) → OneOf (13 ∷ 0 ∷ []) (cond b 0 13)
    go true = inr (inl refl)
    go false = inl refl

module _ (κs : Lfts 2) (t : Borrowed) (out after : BorrowedMut) where
  -- digest returns 0, 5, 6, 7, 13 or 14.
  pub digest-numbers : (r : Result ⊤ Refusal) → Digest κs t out after r → OneOf (5 ∷ 6 ∷ 7 ∷ 13 ∷ 14 ∷ 0 ∷ []) (result_refusal r)
  digest-numbers r a = rw a.0 (digest-one t.now (length out.now))

  -- 14 leaves the first 32 bytes zero.
  pub digest-zeros : (r : Result ⊤ Refusal) → Digest κs t out after r → r ≡ Err PathBroken → after.now ≡ replicate 32 0 ++ drop 32 out.now
  unfolding digest_buffer buffer_after
  digest-zeros r a e = let n : digest_refusal t.now (length out.now) ≡ 14 = sym a.0 ∙ ap result_refusal e in a.1 ∙ rw n

  -- Any other refusal leaves the buffer unchanged.
  pub digest-unchanged : (q : Refusal) → Digest κs t out after (Err q) → (q ≡ PathBroken → ⊥) → after.now ≡ out.now
  unfolding digest_buffer buffer_after
  digest-unchanged q a other = a.1 ∙ rw (
    ← a.0,
    ne_eqb (refusal_number q) 0 (λ z. omega (arith, number-above q)),
    ne_eqb (refusal_number q) 14 (λ z. other (one-number q PathBroken z)),
  )

  -- digest_text returns Ok, or is refused with 13.
  pub digest-text-numbers : (r : Result ⊤ Refusal) → DigestText κs t out after r → OneOf (13 ∷ 0 ∷ []) (result_refusal r)
  digest-text-numbers r a = rw a.0 (text-one (length out.now))

-- Every tree that the check accepts, with the one text that fits it.
module _ (t : Borrowed) (v : check_result t.now ≡ 0) where
  pub accepted-answers : DigestAnswers t (at.settings t.now) (text_of t.now)
  accepted-answers = record {
    digest_of = λ κs out after r a room. digests.digest-accepted κs t out after r a v room (text_of t.now) (accepted-represents t.now v).fitting;
  }

  pub accepted-refuses : DigestRefuses t (at.settings t.now) (text_of t.now)
  accepted-refuses = record { digest_short = λ κs out after r a short. digests.digest_short κs t out after r a (accepted-header t.now v) short }
