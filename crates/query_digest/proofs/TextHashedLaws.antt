-- Laws for the proofs of src/lib.rt: a text read and hashed part by part.
use Rattle.std.specs.Prelude.{Some, None, Result, Ok, Err}
use Rattle.refusals.specs.declared.Refusal.{Refusal}
use Rattle.refusals.specs.Refusals.{refusal_number}
use Rattle.refusals.specs.RefusalsLaws.{number-above}
use mathlib.Core.List.{List, ◌++◌}
use mathlib.Core.Bool.{Bool, true, false, ◌&&◌}
use mathlib.Core.Path.{◌≡◌, refl, sym, ap, ◌∙◌}
use Prim.Native.Nat.{ℕ, ◌+◌, ◌-◌, ◌*◌, ◌/◌, ◌%◌, ◌≤◌, ◌<◌}
use native.Mathlib.Omega.{arith}
use borrow.Author.Tests.{le-leb}
use lib.ListN.{length, get_or, take, drop, length-drop, get_or-append}
use lib.Seq.{ext_get_or, length-take-le, get_or-take, get_or-drop}
use Rattle.text.specs.Text.{tabulate}
use Rattle.text.specs.ListLaws.{bool_clash, length-tabulate, get_or-tabulate}
use Rattle.format.specs.Layout as at
use Rattle.format.specs.TreeReading.{text_of, ask}
use Rattle.format.specs.Answers.{Answer, replied, byte_answer, paths_hold, span_questions, buffer_after, copy_refusal, copy_answer, copy_buffer}
use Rattle.format.specs.AnswerLaws.{unless-number}
use Rattle.theory_paths.specs.OneText.{text-length}
use Rattle.theory_paths.specs.PlaceBytes.{hold_at, holds-split, byte-text}
use Rattle.layout.specs.declared.header.Header.{Header}
use Rattle.layout.specs.HeaderFields.{HeaderOf}
use Rattle.query_access.specs.ReadAnswers.{span_reply}
use Rattle.query_access.specs.ReadByRuns.{IsCopyAnswer}
use Rattle.sha256.specs.declared.HashState.{HashState}
use Rattle.sha256.specs.Sha256.{initial_state, padding, state_after, hash_of}
use Rattle.sha256.specs.Sha256Laws.{state-continued, hash-by-parts}
use Rattle.query_digest.specs.TextHashed.{hash_answer, PartRead, HashedUpTo}

-- One part: the result of `copy` decides whether its paths hold.

asked-good : (b : Bool) → 0 ≡ ask 14 b 0 → b ≡ true
asked-good true e = refl
asked-good false e = absurd (let z : ⊥ = omega arith in z)

asked-broken : (b : Bool) (q : ℕ) → 1 ≤ q → q ≡ ask 14 b 0 → b ≡ false
asked-broken true q l e = absurd (let z : ⊥ = omega arith in z)
asked-broken false q l e = refl

module _ (t : List ℕ) (h : Header) (k : HeaderOf t h) (p len : ℕ) (low : p + len ≤ h.text_length) (d after : List ℕ) (room : len ≤ length d)
    (r : Result (ℕ × ℕ) Refusal) (a : IsCopyAnswer t p len (length d) r) (after_is : after ≡ copy_buffer t p len d) where
  number_is : copy_refusal t p len (length d) ≡ ask 14 (paths_hold t p len) 0
  unfolding copy_refusal span_questions
  number_is = rw (k.passes, le-leb (p + len) (at.text_length t) (omega (arith, k.length_is)), le-leb len (length d) room)

  answer-number : (replied (span_reply r)).number ≡ ask 14 (paths_hold t p len) 0
  unfolding copy_answer
  answer-number = ap (λ (s : Answer). s.number) a.answers
      ∙ unless-number (copy_refusal t p len (length d)) (record { number = 0; value = len; entered = 0 }) refl ∙ number_is

  module _ (x : ℕ × ℕ) (is : r ≡ Ok x) where
    hold : paths_hold t p len ≡ true
    hold = asked-good (paths_hold t p len) (sym (ap (λ (x : Result (ℕ × ℕ) Refusal). (replied (span_reply x)).number) is) ∙ answer-number)

    left : after ≡ tabulate len (λ x. (byte_answer t (p + x)).value) ++ drop len d
    unfolding copy_buffer buffer_after
    left = let z : copy_refusal t p len (length d) ≡ 0 = number_is ∙ rw hold in after_is ∙ rw z

    pub part-read : PartRead t p len true after
    part-read =
        let f : ℕ → ℕ = λ x. (byte_answer t (p + x)).value in record {
          holds = sym hold;
          bytes = λ y x l. rw left
              (get_or-append (tabulate len f) (drop len d) 0 x (rw (length-tabulate len f) l) ∙ get_or-tabulate len f x 0 l
              ∙ byte-text t k.passes (p + x) (omega (arith, k.length_is)) (hold_at t len p x hold l));
        }

  pub part-broken : (q : Refusal) → r ≡ Err q → PartRead t p len false after
  part-broken q is =
      let z : refusal_number q ≡ ask 14 (paths_hold t p len) 0 =
      sym (ap (λ (x : Result (ℕ × ℕ) Refusal). (replied (span_reply x)).number) is) ∙ answer-number in
      let b = asked-broken (paths_hold t p len) (refusal_number q) (number-above q) z in
      record { holds = sym b; bytes = λ y. bool_clash false y refl }

-- Parts hashed one after the other.

module _ (t : List ℕ) where
  pub hashed-start : (s : HashState) → s ≡ initial_state → HashedUpTo t 0 s
  unfolding state_after
  hashed-start s e = record { in_text = omega arith; blocks = refl; value = e }

  module _ (p : ℕ) (s : HashState) (a : HashedUpTo t p s) where
    pub hashed-more : (k q : ℕ) (part : List ℕ) (v : HashState) → q ≡ p + 64 * k → q ≤ at.text_length t
        → ((x : ℕ) → x < 64 * k → get_or part x 0 ≡ get_or (text_of t) (p + x) 0) → v ≡ state_after s part k → HashedUpTo t q v
    hashed-more k q part v q-is in_text bytes v-is =
        let z : 64 * (p / 64) ≡ p = omega (arith, a.blocks) in
        let n : p / 64 + k ≡ q / 64 = omega (arith, a.blocks) in
        let b : q % 64 ≡ 0 = omega (arith, a.blocks) in record {
          in_text = in_text;
          blocks = b;
          value = v-is ∙ ap (λ (y : HashState). state_after y part k) a.value
              ∙ state-continued initial_state (text_of t) part (p / 64) k (λ x l. rw z (bytes x l)) ∙ ap (state_after initial_state (text_of t)) n;
        }

    -- The rest of the text and the padding complete the hash value.
    pub last-hashed : (n : ℕ) → n ≡ at.text_length t → (part rest : List ℕ) (v f : HashState) → n - p ≤ length part
        → ((x : ℕ) → x < n - p → get_or part x 0 ≡ get_or (text_of t) (p + x) 0) → v ≡ state_after s part ((n - p) / 64)
        → rest ≡ take (n - p - 64 * ((n - p) / 64)) (drop (64 * ((n - p) / 64)) part)
        → f ≡ state_after v (rest ++ padding n) (length (rest ++ padding n) / 64) → f ≡ hash_of (text_of t)
    last-hashed n n-is part rest v f room bytes v-is rest_is f-is =
        let T = text_of t in
        let k = (n - p) / 64 in
        let size = n - p - 64 * k in
        let long : length T ≡ n = text-length t ∙ sym n-is in
        let m = hashed-more k (p + 64 * k) part v refl (omega (arith, a.in_text)) (λ x l. bytes x (omega arith)) v-is in
        let w : p + 64 * k ≡ 64 * (length T / 64) = omega (arith, a.blocks, a.in_text) in
        let y : (p + 64 * k) / 64 ≡ length T / 64 = omega arith in
        let size-rest : length rest ≡ size = ap length rest_is ∙ length-take-le size (drop (64 * k) part) (omega (arith, length-drop (64 * k) part)) in
        let same : rest ≡ drop (64 * (length T / 64)) T =
        ext_get_or 0 rest (drop (64 * (length T / 64)) T) (omega (arith, length-drop (64 * (length T / 64)) T, a.in_text)) (λ x l.
        let low : x < size = omega arith in
        let here : p + (64 * k + x) ≡ 64 * (length T / 64) + x = omega arith in
        rw rest_is (get_or-take size (drop (64 * k) part) x 0 low ∙ get_or-drop (64 * k) part x 0 ∙ bytes (64 * k + x) (omega arith)
        ∙ ap (λ (i : ℕ). get_or T i 0) here ∙ sym (get_or-drop (64 * (length T / 64)) T x 0))) in
        f-is ∙ rw (sym long) (hash-by-parts T v (m.value ∙ ap (state_after initial_state T) y) rest same)

-- The answer from a place on is the answer from an earlier one, if the paths between hold.

module _ (t : List ℕ) (p x : ℕ) (in_text : p + x ≤ at.text_length t) where
  rest_is : paths_hold t p (at.text_length t - p) ≡ (paths_hold t p x && paths_hold t (p + x) (at.text_length t - (p + x)))
  rest_is =
      let z : at.text_length t - p ≡ x + (at.text_length t - (p + x)) = omega arith in
      rw z (holds-split t x p (at.text_length t - (p + x)))

  pub from_on : paths_hold t p x ≡ true → (q : ℕ) → q ≡ p + x → hash_answer t q ≡ hash_answer t p
  unfolding hash_answer
  from_on e q q-is = rw (q-is, rest_is, e)

  pub from-broken : paths_hold t p x ≡ false → None ≡ hash_answer t p
  unfolding hash_answer
  from-broken e = rw (rest_is, e)

pub from_all : (t : List ℕ) (p n : ℕ) → n ≡ at.text_length t → paths_hold t p (n - p) ≡ true
    → (f : HashState) → f ≡ hash_of (text_of t) → Some f ≡ hash_answer t p
unfolding hash_answer
from_all t p n n-is e f f-is = let z : paths_hold t p (at.text_length t - p) ≡ true = rw n-is at e in rw (z, f-is)
