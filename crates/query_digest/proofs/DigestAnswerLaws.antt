-- Laws for the proofs of `digest` and `digest_at`: each refusal, and the answer.
use Rattle.std.specs.Prelude.{Option, Some, None, Result, Ok, Err}
use Rattle.refusals.specs.declared.Refusal.{Refusal}
use Rattle.refusals.specs.declared.Refusal.TheVariants.{AnswerDoesNotFit, PathBroken}
use Rattle.refusals.specs.Refusals.{refusal_number, result_refusal}
use mathlib.Core.List.{List, ◌++◌}
use mathlib.Core.Bool.{Bool, true, false, cond}
use mathlib.Core.Path.{◌≡◌, refl, sym, ◌∙◌}
use Prim.Native.Nat.{ℕ, suc, ◌≤◌, ◌<◌}
use native.Mathlib.Omega.{arith}
use native.Mathlib.Nat.{sub-zero}
use borrow.Author.Tests.{le-leb, lt-leb, ne_eqb}
use lib.ListN.{length, drop, replicate}
use Rattle.format.specs.Layout as at
use Rattle.format.specs.TreeReading.{text_of, ask, header_result}
use Rattle.format.specs.Answers.{paths_hold, buffer_after}
use Rattle.layout.specs.declared.header.Header.{Header}
use Rattle.layout.specs.Header.{header_answer}
use Rattle.layout.specs.HeaderFields.{header_refused, header-small}
use Rattle.sha256.specs.declared.HashState.{HashState}
use Rattle.sha256.specs.Sha256.{state_bytes, hash_of, sha256}
use Rattle.query_digest.specs.Digest.{digest_refusal, digest_buffer}
use Rattle.query_digest.specs.TextHashed.{hash_answer}

module _ (t out : List ℕ) where
  -- The contract for the returned result and the buffer.
  abbrev pub DigestResult : Result (Unit {0}) Refusal → List ℕ → Type 0
  DigestResult r after = (result_refusal r ≡ digest_refusal t (length out)) × (after ≡ digest_buffer t out)

  -- Any refusal but 14 leaves the buffer unchanged.
  stays : (q : Refusal) (n : ℕ) → refusal_number q ≡ suc n → digest_refusal t (length out) ≡ suc n → (suc n ≡ 14 → ⊥) → DigestResult (Err q) out
  unfolding digest_buffer buffer_after
  stays q n is e other = (is ∙ sym e, rw (e, ne_eqb (suc n) 0 (λ z. omega arith), ne_eqb (suc n) 14 other))

  pub unread : (x : Result Header Refusal) → x ≡ header_answer t → (q : Refusal) → x ≡ Err q → DigestResult (Err q) out
  unfolding digest_refusal
  unread x is q e =
      let z = header_refused t x is q e in
      let n : digest_refusal t (length out) ≡ suc z.0 = rw (ne_eqb (header_result t) 0 (λ y. omega (arith, z.1))) z.1 in
      stays q z.0 z.2 n (λ y. omega (arith, header-small t, z.1))

  module _ (passes : header_result t ≡ 0) where
    pub short : length out < 32 → DigestResult (Err AnswerDoesNotFit) out
    unfolding digest_refusal
    short l = stays AnswerDoesNotFit 12 refl (rw (passes, lt-leb 32 (length out) l)) (λ z. omega arith)

    module _ (room : 32 ≤ length out) (x : Option HashState) (x-is : x ≡ hash_answer t 0) where
      asked : digest_refusal t (length out) ≡ ask 14 (paths_hold t 0 (at.text_length t)) 0
      unfolding digest_refusal
      asked = rw (passes, le-leb 32 (length out) room)

      whole : x ≡ cond (paths_hold t 0 (at.text_length t)) (Some (hash_of (text_of t))) None
      unfolding hash_answer
      whole = let z = sub-zero (at.text_length t) in rw z at x-is

      pub broken : x ≡ None → (after : List ℕ) → after ≡ replicate 32 0 ++ drop 32 out → DigestResult (Err PathBroken) after
      unfolding digest_buffer buffer_after
      broken e after is =
          let b = none (paths_hold t 0 (at.text_length t)) (sym e ∙ whole) in
          let n : digest_refusal t (length out) ≡ 14 = asked ∙ rw b in
          (sym n, is ∙ rw n)
        where
          none : (b : Bool) → None ≡ cond b (Some (hash_of (text_of t))) None → b ≡ false
          none true e = absurd (let z : ◌≡◌ {A = ℕ} 0 1 = cc in omega arith)
          none false e = refl

      pub answered : (v : HashState) → x ≡ Some v → (after : List ℕ) → after ≡ state_bytes v ++ drop 32 out → DigestResult (Ok tt) after
      unfolding digest_buffer buffer_after sha256
      answered v e after is =
          let b = all (paths_hold t 0 (at.text_length t)) (sym e ∙ whole) in
          let n : digest_refusal t (length out) ≡ 0 = asked ∙ rw b.0 in
          (sym n, is ∙ rw (n, b.1))
        where
          all : (b : Bool) → Some v ≡ cond b (Some (hash_of (text_of t))) None → (b ≡ true) × (v ≡ hash_of (text_of t))
          all true e = (refl, cc)
          all false e = absurd (let z : ◌≡◌ {A = ℕ} 0 1 = cc in omega arith)
