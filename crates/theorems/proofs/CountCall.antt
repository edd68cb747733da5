-- count(tree, byte, i), rank: how often a counted byte occurs in the first i bytes, with the blocks entered; uncounted(tree, i) returns the refusal for a
-- number that is not a byte.
use Rattle.std.specs.Prelude.{Ok, Err}
use Rattle.refusals.specs.declared.Refusal.TheVariants.{PastTheEnd, ByteNotCounted}
use Rattle.refusals.specs.Refusals.{refusal_number}
use Rattle.refusals.specs.RefusalsLaws.{number-above, one-number}
use mathlib.Core.List.{List, [], ◌∷◌}
use mathlib.Core.Option.{Option, some, none}
use mathlib.Core.Bool.{Bool, true, false, cond}
use mathlib.Core.Path.{◌≡◌, sym, ap, ◌∙◌, refl}
use mathlib.Core.Logic.{◌⊎◌, inl, inr}
use Prim.Native.Nat.{ℕ, ◌+◌, ◌-◌, ◌≤◌, ◌<◌}
use native.Mathlib.Omega.{arith}
use contract.Lifetimes.{Lfts}
use lib.ListN.{length, take}
use lib.Dec.{eqb, leb}
use borrow.Author.Tests.{ne_eqb, le-leb, eqb-true, lt-leb}
use Rattle.text.specs.Text.{count_in}
use Rattle.format.specs.Layout.{Settings}
use Rattle.format.specs.Layout as at
use Rattle.format.specs.TreeReading.{Path, path_of, text_of, header_result, check_result, ask}
use Rattle.format.specs.CheckResultLaws.{accepted-header}
use Rattle.format.specs.Answers.{Answer, refused, unless, NeverZero, replied, is_counted, count_answer, number_of_byte, added, taken, leaves_reached, count_of}
use Rattle.format.specs.Answers.{path_length}
use Rattle.format.specs.AnswerLaws.{unless-passes}
use Rattle.theory_counts.specs.Theorems as counts
use Rattle.query_rank.specs.Counts.{count_reply, uncounted_refusal}
use Rattle.theorems.specs.CallContracts.{CountAnswer, Refusal}
use Rattle.theorems.specs.Promises.{CountedIn, CountAnswers, CountRefuses, LengthOfPath}
pub use Rattle.theorems.specs.CallContracts.{Count}
use Rattle.theorems.specs.PublicFunctions.{count_function, uncounted_function}
use Rattle.theorems.proofs.AcceptedTree.{among-counted, not-counted, path-length, text-size}
use Rattle.theorems.proofs.BlocksEntered.{length-of-path}
use Rattle.theorems.proofs.PublicCall.{Call, Borrowed, call}
use Rattle.theorems.proofs.RefusalNumbers.{OneOf, asks-one, not-zero, header-one, then_one, unless-one}
use Rattle.query_rank.proofs.count.Met as count-met
use Rattle.query_rank.proofs.uncounted.uncounted.Met as uncounted-met
use Rattle.query_rank.proofs.uncounted.uncounted.Reads as uncounted-reads

-- What the contract of `uncounted` allows.
abbrev pub Uncounted : (κs : Lfts 1) → Borrowed → (i : ℕ) → Refusal → Type 0
Uncounted κs t i r = uncounted-reads.Post κs (t, (i, tt)) r (t, (i, tt))

abbrev pub count_call : Call
count_call = call count_function count-met.met (λ 𝓤 𝓛 mem run κs a. (tt, refl))

abbrev pub uncounted_call : Call
uncounted_call = call uncounted_function uncounted-met.met (λ 𝓤 𝓛 mem run κs a. (tt, refl))

-- For any bytes.

-- Count returns 0 for no bytes, otherwise the count by the path of the last place.
record Summed (t : List ℕ) (i e : ℕ) : Type 0 where
  pass : header_result t ≡ 0
  path : Path
  path_is : path_of t (i - 1) ≡ some path
  entered_is : e ≡ length path.visits

count-summed : (t : List ℕ) (byte i : ℕ) → (count_answer t byte i).number ≡ 0
    → ((i ≡ 0) × (count_answer t byte i ≡ refused 0)) ⊎ Summed t i (count_answer t byte i).entered
unfolding count_answer
count-summed t byte i h =
    let asked = ask 10 (leb i (at.text_length t)) (ask 11 (is_counted t byte) 0) in
    let walked = count_of t byte (number_of_byte t byte) (path_of t (i - 1)) in
    let a = unless-passes (header_result t) (unless asked (cond (eqb i 0) (refused 0) walked)) h in
    let b = unless-passes asked (cond (eqb i 0) (refused 0) walked) a.1 in
    rw (a.0, b.0) (go a.0 (eqb i 0) refl (path_of t (i - 1)) refl b.1)
  where
    some-path : header_result t ≡ 0 → (q : Path) (minus plus : ℕ) (c : Bool) → path_of t (i - 1) ≡ some q
        → (cond c (record { number = 0; value = plus - minus; entered = length q.visits }) (refused 14)).number ≡ 0
        → Summed t i (cond c (record { number = 0; value = plus - minus; entered = length q.visits }) (refused 14)).entered
    some-path r q minus plus true e k = record { pass = r; path = q; path_is = e; entered_is = refl }
    some-path r q minus plus false e k = absurd (let z : ⊥ = omega arith in z)

    go : header_result t ≡ 0 → (b : Bool) → eqb i 0 ≡ b → (o : Option Path) → path_of t (i - 1) ≡ o
        → (cond b (refused 0) (count_of t byte (number_of_byte t byte) o)).number ≡ 0
        → ((i ≡ 0) × (cond b (refused 0) (count_of t byte (number_of_byte t byte) o) ≡ refused 0))
        ⊎ Summed t i (cond b (refused 0) (count_of t byte (number_of_byte t byte) o)).entered
    go r true z o e k = inl (eqb-true i 0 z, refl)
    go r false z none e k = absurd (let y : ⊥ = omega arith in y)
    go r false z (some q) e k =
        let c = number_of_byte t byte in
        let plus = added t c q.visits + count_in byte (leaves_reached t q) in
        let minus = taken t c q.visits in
        inr (some-path r q minus plus (leb minus plus) e k)

-- On any tree, blocks entered is the length of the path of place i - 1, and for i = 0 the count is 0 with no blocks entered.
pub count-answer : (κs : Lfts 1) (t : Borrowed) (byte i c e : ℕ) → Count κs t byte i (Ok (c, e))
    → ((i ≡ 0) × (c ≡ 0) × (e ≡ 0)) ⊎ LengthOfPath t.now (at.settings t.now).levels (i - 1) e
count-answer κs t byte i c e a = go (count-summed t.now byte i (sym (ap (λ (s : Answer). s.number) a.answers)))
  where
    -- The figure is the definition's.
    entered : e ≡ (count_answer t.now byte i).entered
    entered = ap (λ (s : Answer). s.entered) a.answers

    go : ((i ≡ 0) × (count_answer t.now byte i ≡ refused 0)) ⊎ Summed t.now i (count_answer t.now byte i).entered
        → ((i ≡ 0) × (c ≡ 0) × (e ≡ 0)) ⊎ LengthOfPath t.now (at.settings t.now).levels (i - 1) e
    go (inl h) = let z = a.answers ∙ h.1 in inl (h.0, ap (λ (s : Answer). s.value) z, ap (λ (s : Answer). s.entered) z)
    go (inr w) = inr (rw (entered ∙ w.entered_is) (length-of-path t.now w.pass (i - 1) w.path w.path_is))

-- The numbers that its questions can give.
module _ (t : List ℕ) where
  less_one : (b : Bool) (s : Answer) → s.number ≡ 0 → OneOf (14 ∷ 0 ∷ []) (cond b s (refused 14)).number
  less_one true s e = inr (inl e)
  less_one false s e = inl refl

  count_of-one : (byte c : ℕ) (o : Option Path) → OneOf (14 ∷ 0 ∷ []) (count_of t byte c o).number
  count_of-one byte c none = inl refl
  count_of-one byte c (some q) =
      let plus = added t c q.visits + count_in byte (leaves_reached t q) in
      let minus = taken t c q.visits in
      less_one (leb minus plus) (record { number = 0; value = plus - minus; entered = length q.visits }) refl

  none_or : (b : Bool) (s z : Answer) → OneOf (14 ∷ 0 ∷ []) s.number → z.number ≡ 0 → OneOf (14 ∷ 0 ∷ []) (cond b z s).number
  none_or true s z h e = inr (inl e)
  none_or false s z h e = h

  count-one : (byte i : ℕ) → OneOf (5 ∷ 6 ∷ 7 ∷ 10 ∷ 11 ∷ 14 ∷ 0 ∷ []) (count_answer t byte i).number
  unfolding count_answer
  count-one byte i =
      unless-one (5 ∷ 6 ∷ 7 ∷ []) (10 ∷ 11 ∷ 14 ∷ 0 ∷ []) (header_result t) _ (header-one t)
      (unless-one (10 ∷ 11 ∷ []) (14 ∷ 0 ∷ []) _ _ (asks-one ((10, leb i (at.text_length t)) ∷ (11, is_counted t byte) ∷ []))
      (none_or (eqb i 0) (count_of t byte (number_of_byte t byte) (path_of t (i - 1))) _ (count_of-one byte (number_of_byte t byte) (path_of t (i - 1))) refl))

-- A refusal is 5, 6, 7, 10, 11 or 14.
pub count-numbers : (κs : Lfts 1) (t : Borrowed) (byte i : ℕ) (q : Refusal) → Count κs t byte i (Err q)
    → OneOf (5 ∷ 6 ∷ 7 ∷ 10 ∷ 11 ∷ 14 ∷ []) (refusal_number q)
count-numbers κs t byte i q a =
    let e : refusal_number q ≡ (count_answer t.now byte i).number = ap (λ (s : Answer). s.number) a.answers in
    not-zero (5 ∷ 6 ∷ 7 ∷ 10 ∷ 11 ∷ 14 ∷ []) (refusal_number q) a.numbered (rw e (count-one t.now byte i))

-- A number above 255 is refused on any bytes: `uncounted` returns 5, 6, 7, 10 or 11, never 0.
pub uncounted-numbers : (κs : Lfts 1) (t : Borrowed) (i : ℕ) (r : Refusal) → Uncounted κs t i r → OneOf (5 ∷ 6 ∷ 7 ∷ 10 ∷ 11 ∷ []) (refusal_number r)
unfolding uncounted_refusal
uncounted-numbers κs t i r a =
    rw a (then_one (5 ∷ 6 ∷ 7 ∷ []) (10 ∷ 11 ∷ []) (header_result t.now) _ (header-one t.now) (last (leb i (at.text_length t.now))))
  where
    last : (b : Bool) → OneOf (10 ∷ 11 ∷ []) (ask 10 b 11)
    last true = inr (inl refl)
    last false = inl refl

-- The answer in each case.
count_is : (r : CountAnswer) (v e : ℕ) → NeverZero (count_reply r) → replied (count_reply r) ≡ record { number = 0; value = v; entered = e } → r ≡ Ok (v, e)
count_is (Ok x) v e k s =
    let z : x.0 ≡ v = ap (λ (x : Answer). x.value) s in
    let y : x.1 ≡ e = ap (λ (x : Answer). x.entered) s in
    ap Ok (λ i. (z i, y i))
count_is (Err q) v e k s = absurd (let z : refusal_number q ≡ 0 = ap (λ (x : Answer). x.number) s in omega arith)

count_no : (r : CountAnswer) (q : Refusal) → replied (count_reply r) ≡ refused (refusal_number q) → r ≡ Err q
count_no (Ok x) q s = absurd (let low = number-above q in let z : 0 ≡ refusal_number q = ap (λ (x : Answer). x.number) s in omega arith)
count_no (Err d) q s = ap Err (one-number d q (ap (λ (x : Answer). x.number) s))

-- Any tree that the check accepts, and the one text that fits it.
module _ (t : Borrowed) (v : check_result t.now ≡ 0) where
  abbrev T : List ℕ
  T = text_of t.now

  abbrev S : Settings
  S = at.settings t.now

  pass : header_result t.now ≡ 0
  pass = accepted-header t.now v

  size : length T ≡ at.text_length t.now
  size = text-size t.now v

  -- What it answers, for any number of bytes.
  count-answers : (κs : Lfts 1) (byte i : ℕ) (r : CountAnswer) → Count κs t byte i r → CountedIn byte S.counted → i ≤ length T
      → r ≡ Ok (count_in byte (take i T), cond (eqb i 0) 0 (path_length t.now (path_of t.now (i - 1))))
  count-answers κs byte i r a k h =
      count_is r _ _ a.numbered (a.answers ∙ counts.count-of-text t.now v byte i (among-counted t.now byte k) (omega (arith, size)))

  pub accepted-answers : CountAnswers t S T
  unfolding count_in
  accepted-answers = record {
    count-of = λ κs byte i r a k low h. (
      path_length t.now (path_of t.now (i - 1)),
      path-length t.now v (i - 1) (omega arith),
      rw (ne_eqb i 0 (λ z. omega arith)) at (count-answers κs byte i r a k h),
    );
    count_none = λ κs byte r a k. count-answers κs byte 0 r a k (omega arith);
  }

  count-ten : (byte i : ℕ) → length T < i → count_answer t.now byte i ≡ refused 10
  unfolding count_answer
  count-ten byte i h = rw (pass, lt-leb i (at.text_length t.now) (omega (arith, size)))

  count-eleven : (byte i : ℕ) → i ≤ length T → (CountedIn byte S.counted → ⊥) → count_answer t.now byte i ≡ refused 11
  unfolding count_answer
  count-eleven byte i h other = rw (pass, le-leb i (at.text_length t.now) (omega (arith, size)), not-counted t.now v byte other)

  pub accepted-refuses : CountRefuses t S T
  accepted-refuses = record {
    count_past = λ κs byte i r a h. count_no r PastTheEnd (a.answers ∙ count-ten byte i h);
    count_other = λ κs byte i r a h other. count_no r ByteNotCounted (a.answers ∙ count-eleven byte i h other);
  }
