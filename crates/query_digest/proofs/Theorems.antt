-- Theorems about digest, from its contract alone: for any bytes, for every tree that the check accepts, however built, and for the tree that build writes.
-- docs/FORMAT.md: "Digest".
use Rattle.std.specs.Prelude.{Result, Ok, Err}
use Rattle.refusals.specs.declared.Refusal.{Refusal}
use Rattle.refusals.specs.declared.Refusal.TheVariants.{AnswerDoesNotFit, PathBroken}
use Rattle.refusals.specs.Refusals.{result_refusal}
use Rattle.refusals.specs.RefusalsLaws.{refused-as, answered-with}
use mathlib.Core.List.{List, ◌++◌}
use mathlib.Core.Option.{none}
use mathlib.Core.Bool.{true, false}
use mathlib.Core.Path.{◌≡◌, refl, sym, ap, ◌∙◌}
use mathlib.Core.Logic.{◌⊎◌, inl, inr}
use Prim.Native.Nat.{ℕ, suc, ◌+◌, ◌≤◌, ◌<◌}
use native.Mathlib.Omega.{arith}
use contract.Lifetimes.{Lfts}
use denote.Ref.{Bor, MutBor}
use borrow.Author.Tests.{le-leb, lt-leb, ne_eqb}
use lib.ListN.{length, take, drop, replicate}
use lib.Seq.{take_at}
use Rattle.text.specs.ListLaws.{bool_cases}
use Rattle.format.specs.Layout.{Settings}
use Rattle.format.specs.Blocks.{tree_of}
use Rattle.format.specs.Layout as at
use Rattle.format.specs.TreeReading.{path_of, text_of, header_result, check_result}
use Rattle.format.specs.FittingText.{fits}
use Rattle.format.specs.CheckResultLaws.{accepted-header, accepted-links}
use Rattle.format.specs.Answers.{Answer, byte_of, byte_answer, paths_hold, buffer_after}
use Rattle.theory_paths.specs.Theorems as paths
use Rattle.theory_paths.specs.PlaceBytes.{hold_at, byte-path}
use Rattle.theory_built.specs.BlockSizes.{Taken}
use Rattle.theory_accepted.specs.AcceptedTrees.{built-text, built-checked}
use Rattle.layout.specs.HeaderFields.{header-small}
use Rattle.sha256.specs.Sha256.{sha256}
use Rattle.sha256.specs.Sha256Laws.{length-sha256}
use Rattle.sha256.proofs.Theorems.{DigestText, digest-text-bytes}
use Rattle.query_digest.specs.Digest.{digest_refusal, digest_buffer}
use Rattle.query_digest.proofs.digest.Reads as reads

-- The contract of `digest` allows it to return r for these arguments and to leave the buffer as `after`.
abbrev pub Digest : (κs : Lfts 2) → (t : Bor (List ℕ)) (out after : MutBor (List ℕ)) → Result (Unit {0}) Refusal → Type 0
Digest κs t out after r = reads.Post κs (t, (out, tt)) r (t, (after, tt))

module _ (κs : Lfts 2) (t : Bor (List ℕ)) (out after : MutBor (List ℕ)) (r : Result (Unit {0}) Refusal) (a : Digest κs t out after r) where
  -- Any refusal but 14 leaves the buffer unchanged.
  refuses : (n : ℕ) → digest_refusal t.now (length out.now) ≡ suc n → (suc n ≡ 14 → ⊥) → (result_refusal r ≡ suc n) × (after.now ≡ out.now)
  unfolding digest_buffer buffer_after
  refuses n e other = (a.0 ∙ e, a.1 ∙ rw (e, ne_eqb (suc n) 0 (λ z. omega arith), ne_eqb (suc n) 14 other))

  -- Bytes that questions 5 to 7 refuse: that number, the buffer unchanged.
  pub digest-unread : (n : ℕ) → header_result t.now ≡ suc n → (result_refusal r ≡ suc n) × (after.now ≡ out.now)
  unfolding digest_refusal
  digest-unread n e = refuses n (rw (e, ne_eqb (suc n) 0 (λ z. omega arith))) (λ z. omega (arith, header-small t.now))

  module _ (pass : header_result t.now ≡ 0) where
    -- After questions 5 to 7, a buffer of fewer than 32 bytes is refused with 13 and unchanged.
    pub digest_short : length out.now < 32 → (r ≡ Err AnswerDoesNotFit) × (after.now ≡ out.now)
    unfolding digest_refusal
    digest_short l =
        let z = refuses 12 (rw (pass, lt-leb 32 (length out.now) l)) (λ z. omega arith) in (refused-as r AnswerDoesNotFit z.0, z.1)

    module _ (room : 32 ≤ length out.now) where
      -- After 13, the call is refused with 14 if the path of some place of the text breaks: the first 32 bytes are zero.
      pub digest-broken : (p : ℕ) → p < at.text_length t.now → path_of t.now p ≡ none → (r ≡ Err PathBroken) × (after.now ≡ replicate 32 0 ++ drop 32 out.now)
      unfolding digest_refusal digest_buffer buffer_after
      digest-broken p low e =
          let b : paths_hold t.now 0 (at.text_length t.now) ≡ false = go (bool_cases (paths_hold t.now 0 (at.text_length t.now))) in
          let n : digest_refusal t.now (length out.now) ≡ 14 = rw (pass, le-leb 32 (length out.now) room, b) in
          (refused-as r PathBroken (a.0 ∙ n), a.1 ∙ rw n)
        where
          broken : (byte_answer t.now (0 + p)).number ≡ 14
          broken =
              let z : 0 + p ≡ p = omega arith in
              rw z (ap (λ (s : Answer). s.number) (byte-path t.now pass p low ∙ ap (byte_of t.now) e))

          go : (paths_hold t.now 0 (at.text_length t.now) ≡ true) ⊎ (paths_hold t.now 0 (at.text_length t.now) ≡ false)
              → paths_hold t.now 0 (at.text_length t.now) ≡ false
          go (inl h) = absurd (let z : ⊥ = omega (arith, broken, hold_at t.now (at.text_length t.now) 0 p h low) in z)
          go (inr h) = h

  -- An accepted tree: the SHA-256 of the one text that fits; the bytes after the first 32 are unchanged.
  module _ (v : check_result t.now ≡ 0) (room : 32 ≤ length out.now) (T : List ℕ) (f : fits T t.now ≡ true) where
    pub digest-accepted : (r ≡ Ok tt) × (after.now ≡ sha256 T ++ drop 32 out.now)
    unfolding digest_refusal digest_buffer buffer_after
    digest-accepted =
        let pass = accepted-header t.now v in
        let links = accepted-links t.now v in
        let hold = paths.paths-all t.now pass links 0 (at.text_length t.now) (omega arith) in
        let n : digest_refusal t.now (length out.now) ≡ 0 = rw (pass, le-leb 32 (length out.now) room, hold) in
        (answered-with r tt (a.0 ∙ n) (λ y is. refl), a.1 ∙ rw (n, paths.only-text t.now pass links T f))

    pub digest-bytes : take 32 after.now ≡ sha256 T
    digest-bytes = rw digest-accepted.1 (take_at (sha256 T) (drop 32 out.now) 32 (length-sha256 T))

  -- The tree that build writes of a text: digest of the tree and digest_text of the text give the same 32 bytes.
  module _ (S : Settings) (text : Bor (List ℕ)) (h : Taken S text.now) (is : t.now ≡ tree_of S text.now) (room : 32 ≤ length out.now) where
    accepted : check_result t.now ≡ 0
    accepted = rw is (built-checked S text.now h)

    fitting : fits text.now t.now ≡ true
    fitting = rw (← built-fits-text) (paths.text-fits t.now (accepted-header t.now accepted) (accepted-links t.now accepted))
      where
        built-fits-text : text_of t.now ≡ text.now
        built-fits-text = rw is (built-text S text.now h)

    pub digest-built : (κs₂ : Lfts 2) (out₂ after₂ : MutBor (List ℕ)) (r₂ : Result (Unit {0}) Refusal)
        → DigestText κs₂ text out₂ after₂ r₂ → 32 ≤ length out₂.now
        → (r ≡ Ok tt) × (take 32 after.now ≡ take 32 after₂.now)
    digest-built κs₂ out₂ after₂ r₂ b room₂ = (
      (digest-accepted accepted room text.now fitting).0,
      digest-bytes accepted room text.now fitting ∙ sym (digest-text-bytes κs₂ text out₂ after₂ r₂ b room₂),
    )
