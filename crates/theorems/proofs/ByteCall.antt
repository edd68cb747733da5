-- byte(tree, place): the byte at a place, with the blocks entered.
use Rattle.std.specs.Prelude.{Ok, Err}
use Rattle.refusals.specs.declared.Refusal.TheVariants.{PastTheEnd}
use Rattle.refusals.specs.Refusals.{refusal_number}
use Rattle.refusals.specs.RefusalsLaws.{number-above, one-number}
use mathlib.Core.List.{List, [], ◌∷◌}
use mathlib.Core.Option.{Option, some, none}
use mathlib.Core.Path.{◌≡◌, sym, ap, ◌∙◌, refl}
use mathlib.Core.Logic.{inl, inr}
use Prim.Native.Nat.{ℕ, ◌≤◌, ◌<◌}
use native.Mathlib.Omega.{arith}
use contract.Lifetimes.{Lfts}
use lib.ListN.{length, get_or}
use lib.Dec.{ltb}
use borrow.Author.Tests.{ltb-true, le-ltb}
use Rattle.text.specs.declared.TextPlace.{TextPlace}
use Rattle.format.specs.Layout as at
use Rattle.format.specs.TreeReading.{Path, path_of, text_of, header_result, check_result, ask}
use Rattle.format.specs.CheckResultLaws.{accepted-header, accepted-links}
use Rattle.format.specs.Answers.{Answer, refused, unless, replied, byte_answer, byte_of, path_length}
use Rattle.format.specs.LayoutLaws.{ask-test}
use Rattle.format.specs.AnswerLaws.{unless-passes}
use Rattle.theory_paths.specs.Theorems as paths
use Rattle.theory_paths.specs.PlaceBytes.{path-there}
use Rattle.query_access.proofs.Theorems as access
use Rattle.query_access.specs.ReadAnswers.{byte_reply}
use Rattle.theorems.specs.CallContracts.{ByteAnswer, Refusal}
use Rattle.theorems.specs.Promises.{ByteAnswers, ByteRefuses, LengthOfPath}
use Rattle.theorems.specs.PublicFunctions.{byte_function}
use Rattle.theorems.proofs.AcceptedTree.{below, path-length, text-size}
use Rattle.theorems.proofs.BlocksEntered.{length-of-path}
use Rattle.theorems.proofs.PublicCall.{Call, Borrowed, call}
use Rattle.theorems.proofs.RefusalNumbers.{OneOf, asks-one, not-zero, header-one, unless-one}
use Rattle.query_access.proofs.byte.Met as byte-met
-- r is an answer that the contract of `byte` allows to a call with these arguments: `Byte κs tree place r`
pub use Rattle.theorems.specs.CallContracts.{Byte}

abbrev pub byte_call : Call
byte_call = call byte_function byte-met.met (λ 𝓤 𝓛 mem run κs a. (tt, refl))

-- For any bytes.

-- Byte is not refused only if the place has a path.
pub record CallReached (t : List ℕ) (p : ℕ) : Type 0 where
  pub pass : header_result t ≡ 0
  pub low : p < at.text_length t
  pub path : Path
  pub path_is : path_of t p ≡ some path

pub byte-reached : (t : List ℕ) (p : ℕ) → (byte_answer t p).number ≡ 0 → CallReached t p
unfolding byte_answer
byte-reached t p h =
    let ten = ask 10 (ltb p (at.text_length t)) 0 in
    let a = unless-passes (header_result t) (unless ten (byte_of t (path_of t p))) h in
    let b = unless-passes ten (byte_of t (path_of t p)) a.1 in
    let low = ltb-true p (at.text_length t) (ask-test 9 (ltb p (at.text_length t)) 0 b.0) in
    let w = path-there t a.0 p low h in
    record { pass = a.0; low = low; path = w.0; path_is = w.1 }

-- The numbers that its questions can give.
pub byte_of-one : (t : List ℕ) (o : Option Path) → OneOf (14 ∷ 0 ∷ []) (byte_of t o).number
byte_of-one t none = inl refl
byte_of-one t (some q) = inr (inl refl)

pub byte_one : (t : List ℕ) (p : ℕ) → OneOf (5 ∷ 6 ∷ 7 ∷ 10 ∷ 14 ∷ 0 ∷ []) (byte_answer t p).number
unfolding byte_answer
byte_one t p =
    let ten = ask 10 (ltb p (at.text_length t)) 0 in
    unless-one (5 ∷ 6 ∷ 7 ∷ []) (10 ∷ 14 ∷ 0 ∷ []) (header_result t) (unless ten (byte_of t (path_of t p))) (header-one t)
    (unless-one (10 ∷ []) (14 ∷ 0 ∷ []) ten (byte_of t (path_of t p)) (asks-one ((10, ltb p (at.text_length t)) ∷ [])) (byte_of-one t (path_of t p)))

module _ (κs : Lfts 1) (t : Borrowed) (p : TextPlace) where
  -- On any tree, the result is the byte at the end of the place's path, with that path's length.
  pub byte-answer : (v e : ℕ) → Byte κs t p (Ok (v, e))
      → (q : Path) × (path_of t.now p.0 ≡ some q) × (v ≡ at.leaf_byte t.now q.leaf) × LengthOfPath t.now (at.settings t.now).levels p.0 e
  byte-answer v e a =
      let w = byte-reached t.now p.0 (sym (ap (λ (s : Answer). s.number) a)) in
      let z = a ∙ paths.byte-by-path t.now w.pass p.0 w.path w.path_is w.low in
      let entered : e ≡ length w.path.visits = ap (λ (s : Answer). s.entered) z in
      (w.path, w.path_is, ap (λ (s : Answer). s.value) z, rw entered (length-of-path t.now w.pass p.0 w.path w.path_is))

  -- A refusal is 5, 6, 7, 10 or 14.
  pub byte-numbers : (q : Refusal) → Byte κs t p (Err q) → OneOf (5 ∷ 6 ∷ 7 ∷ 10 ∷ 14 ∷ []) (refusal_number q)
  byte-numbers q a =
      let e : refusal_number q ≡ (byte_answer t.now p.0).number = ap (λ (s : Answer). s.number) a in
      not-zero (5 ∷ 6 ∷ 7 ∷ 10 ∷ 14 ∷ []) (refusal_number q) (number-above q) (rw e (byte_one t.now p.0))

-- Past the text.
pub byte-ten : (t : List ℕ) → check_result t ≡ 0 → (p : ℕ) → length (text_of t) ≤ p → byte_answer t p ≡ refused 10
unfolding byte_answer
byte-ten t v p h = rw (accepted-header t v, le-ltb p (at.text_length t) (omega (arith, text-size t v)))

-- The refusal in each case.
byte-no : (r : ByteAnswer) (q : Refusal) → replied (byte_reply r) ≡ refused (refusal_number q) → r ≡ Err q
byte-no (Ok x) q s = absurd (let low = number-above q in let z : 0 ≡ refusal_number q = ap (λ (x : Answer). x.number) s in omega arith)
byte-no (Err d) q s = ap Err (one-number d q (ap (λ (x : Answer). x.number) s))

-- Any tree that the check accepts, and the one text that fits it.
module _ (t : Borrowed) (v : check_result t.now ≡ 0) where
  pub accepted-answers : ByteAnswers t (at.settings t.now) (text_of t.now)
  accepted-answers = record {
    byte-of = λ κs p r a h.
        let w = access.byte-answers t (accepted-header t.now v) (accepted-links t.now v) κs p r (below t.now v h) a in
        let is = ap (λ (o : Option Path). Ok (get_or (text_of t.now) p.0 0, path_length t.now o)) (sym w.path_is) in
        (path_length t.now (path_of t.now p.0), path-length t.now v p.0 h, w.answer_is ∙ is);
  }

  pub accepted-refuses : ByteRefuses t (at.settings t.now) (text_of t.now)
  accepted-refuses = record { byte_past = λ κs p r a h. byte-no r PastTheEnd (a ∙ byte-ten t.now v p.0 h) }
