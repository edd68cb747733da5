-- build_scanned(text, leaf, arity, levels, counted, words, out): the block tree of a text by one scan for each level, with the caller's table of words;
-- scan_words(n, leaf) returns the number of words of that table. It writes what build writes, so demand 2 and the end of demand 3 follow from the theorems on
-- build. Besides: the number of windows that it returns, its refusals, the table and the buffer afterwards.
use Rattle.std.specs.Prelude.{⊤, Result, Ok, Err}
use Rattle.refusals.specs.declared.Refusal.TheVariants.{TreeDoesNotFit, ScanTableTooShort}
use Rattle.refusals.specs.Refusals.{refusal_number}
use Rattle.refusals.specs.RefusalsLaws.{number-above, one-number}
use mathlib.Core.List.{List, [], ◌∷◌}
use mathlib.Core.Bool.{true}
use mathlib.Core.Path.{◌≡◌, sym, ap, ◌∙◌, refl}
use mathlib.Core.Logic.{inl, inr}
use Prim.Native.Nat.{ℕ, ◌≤◌, ◌<◌}
use native.Mathlib.Omega.{arith}
use native.Mathlib.Decide.{ℕ_discrete}
use contract.Lifetimes.{Lfts}
use lib.ListN.{length, take, drop, replicate}
use lib.Dec.{leb}
use borrow.Author.Tests.{ne_eqb, le-leb, lt-leb}
use Rattle.format.specs.Answers.{replied, build_refusal, build_size, build_buffer}
use Rattle.format.specs.Layout.{Settings, length_ok, sizes_ok, counted_ok, given}
use Rattle.format.specs.FittingText.{fits}
use Rattle.format.specs.TreeReading.{ask}
use Rattle.format.specs.Blocks.{tree_of}
use Rattle.theory_accepted.specs.AcceptedTrees.{Represents}
use Rattle.build_by_search.specs.BuildAnswer.{build_reply}
use Rattle.build_by_scan.specs.ScanAnswers.{windows_of, table_words, build_scanned_refusal, scan_windows, build_scanned_buffer, build_scanned_reply}
use Rattle.build_by_scan.proofs.ScannedOutcomes.{number_same, size_same, leaves-same}
pub use Rattle.theorems.specs.CallContracts.{BuildScanned}
use Rattle.theorems.specs.CallContracts.{BuildAnswer, BuildScannedAnswer, Refusal}
use Rattle.theorems.specs.Promises.{Answers, Refuses}
use Rattle.theorems.specs.PublicFunctions.{build_scanned_function, scan_words_function}
use Rattle.theorems.proofs.BuildCall.{Build, build-numbers, build-zeros, build-answer, build-writes}
use Rattle.theorems.proofs.BuildCall.{build-answers, build-refuses, build-accepted, build-one-text}
use Rattle.theorems.proofs.CheckCall.{Check}
use Rattle.theorems.proofs.PublicCall.{Call, Borrowed, BorrowedMut, call}
use Rattle.theorems.proofs.RefusalNumbers.{OneOf, asks-one}
use Rattle.build_by_scan.proofs.build_scanned.Met as build-scanned-met
use Rattle.build_by_scan.proofs.scan_words.Met as scan-words-met
use Rattle.build_by_scan.proofs.scan_words.Reads as scan-words-reads

-- What the contract of `scan_words` allows.
abbrev pub ScanWords : (n leaf : ℕ) → ℕ → Type 0
ScanWords n leaf r = scan-words-reads.Post tt (n, (leaf, tt)) r (n, (leaf, tt))

abbrev pub build_scanned_call : Call
build_scanned_call = call build_scanned_function build-scanned-met.met (λ 𝓤 𝓛 mem run κs a. (tt, refl))

abbrev pub scan_words_call : Call
scan_words_call = call scan_words_function scan-words-met.met (λ 𝓤 𝓛 mem run κs a. (tt, refl))

-- Which answer has number 18.
short-table : (r : BuildScannedAnswer) → (replied (build_scanned_reply r)).number ≡ 18 → r ≡ Err ScanTableTooShort
short-table (Ok x) e = absurd (let z : ⊥ = omega arith in z)
short-table (Err q) e = ap Err (one-number q ScanTableTooShort e)

-- A call of build_scanned, which leaves the table `words` as `table` and the buffer `out` as `after`.
module _ (κs : Lfts 4) (text : Borrowed) (leaf arity levels : ℕ) (counted : Borrowed) (words table out after : BorrowedMut) where
  abbrev S : Settings
  S = given leaf arity levels counted.now

  abbrev T : List ℕ
  T = text.now

  abbrev Outcome : BuildScannedAnswer → Type 0
  Outcome = BuildScanned κs text leaf arity levels counted words table out after

  abbrev κ : Lfts 3
  κ = (κs.0, (κs.1.0, (κs.1.1.0, tt)))

  -- Unless it answers 18, build may answer the same, and leave the buffer so.
  as-size : (size windows : ℕ) → Outcome (Ok (size, windows)) → Build κ text leaf arity levels counted out after (Ok size)
  as-size size windows a =
      let long : build_scanned_refusal S T out.now (length words.now) ≡ 18 → ⊥ = λ e. omega (arith, a.0) in (
        a.0 ∙ number_same S T out.now (length words.now) long,
        (a.1.0 ∙ size_same S T out.now (length words.now) long, a.1.1.1.0 ∙ leaves-same S T out.now (length words.now) long),
      )

  as-refused : (q : Refusal) → (q ≡ ScanTableTooShort → ⊥) → Outcome (Err q) → Build κ text leaf arity levels counted out after (Err q)
  as-refused q other a =
      let long : build_scanned_refusal S T out.now (length words.now) ≡ 18 → ⊥ = λ e. other (one-number q ScanTableTooShort (a.0 ∙ e)) in (
        a.0 ∙ number_same S T out.now (length words.now) long,
        (a.1.0 ∙ size_same S T out.now (length words.now) long, a.1.1.1.0 ∙ leaves-same S T out.now (length words.now) long),
      )

  -- Demand 1: a refusal is 1, 2, 3, 18 or 4.
  module _ (q : Refusal) (a : Outcome (Err q)) where
    pub scanned-numbers : OneOf (1 ∷ 2 ∷ 3 ∷ 18 ∷ 4 ∷ []) (refusal_number q)
    scanned-numbers = go (ℕ_discrete (refusal_number q) 18)
      where
        n : ℕ
        n = refusal_number q

        among : OneOf (1 ∷ 2 ∷ 3 ∷ 4 ∷ []) n → OneOf (1 ∷ 2 ∷ 3 ∷ 18 ∷ 4 ∷ []) n
        among (inl e) = inl e
        among (inr (inl e)) = inr (inl e)
        among (inr (inr (inl e))) = inr (inr (inl e))
        among (inr (inr (inr h))) = inr (inr (inr (inr h)))

        go : Dec (n ≡ 18) → OneOf (1 ∷ 2 ∷ 3 ∷ 18 ∷ 4 ∷ []) n
        go (yes e) = inr (inr (inr (inl e)))
        go (no d) = among (build-numbers κ text leaf arity levels counted out after q (as-refused q (λ e. d (ap refusal_number e)) a))

    -- Refusal 4 leaves zeros in the whole buffer, any other refusal leaves the buffer unchanged.
    pub scanned-zeros : q ≡ TreeDoesNotFit → after.now ≡ replicate (length out.now) 0
    scanned-zeros e =
        build-zeros κ text leaf arity levels counted out after q
        (as-refused q (λ f. omega (arith, ap refusal_number e, ap refusal_number f)) a) e

    pub scanned-unchanged : (q ≡ TreeDoesNotFit → ⊥) → after.now ≡ out.now
    unfolding build_scanned_buffer
    scanned-unchanged e = a.1.1.1.0 ∙ rw (
      ← a.0,
      ne_eqb (refusal_number q) 0 (λ f. omega (arith, number-above q)),
      ne_eqb (refusal_number q) 4 (λ f. e (one-number q TreeDoesNotFit f)),
    )

    -- Every refusal but 4 leaves the table unchanged. After 4, and if the call is not refused, the table's content is free.
    pub scanned-table : (q ≡ TreeDoesNotFit → ⊥) → table.now ≡ words.now
    scanned-table e = a.1.1.1.1.untouched (λ f. omega (arith, number-above q)) (λ f. e (one-number q TreeDoesNotFit f))

  -- Refused with 18, if questions 1 to 3 pass and whatever the buffer: a table of fewer than 4 × (n / m rounded up) words. A table of the size that
  -- scan_words returns is never refused with 18.
  module _ (r : BuildScannedAnswer) (a : Outcome r) where
    pub scanned-short : length_ok (length T) ≡ true → sizes_ok S ≡ true → counted_ok counted.now ≡ true → length words.now < table_words (length T) leaf
        → r ≡ Err ScanTableTooShort
    unfolding build_scanned_refusal
    scanned-short one two three short = short-table r (a.0 ∙ rw (one, two, three, lt-leb (table_words (length T) leaf) (length words.now) short))

    pub scanned-has-table : (w : ℕ) → ScanWords (length T) leaf w → w ≤ length words.now → r ≡ Err ScanTableTooShort → ⊥
    unfolding build_scanned_refusal
    scanned-has-table w c enough e =
        let long : table_words (length T) leaf ≤ length words.now = omega (arith, c) in
        let room = leb (length (tree_of S T)) (length out.now) in
        let is : 18 ≡ ask 1 (length_ok (length T)) (ask 2 (sizes_ok S) (ask 3 (counted_ok counted.now) (ask 4 room 0))) =
        sym (ap (λ (x : BuildScannedAnswer). (replied (build_scanned_reply x)).number) e) ∙ a.0
        ∙ rw (le-leb (table_words (length T) leaf) (length words.now) long) in
        go (rw is (asks-one ((1, length_ok (length T)) ∷ (2, sizes_ok S) ∷ (3, counted_ok counted.now) ∷ (4, room) ∷ [])))
      where
        go : OneOf (1 ∷ 2 ∷ 3 ∷ 4 ∷ 0 ∷ []) 18 → ⊥
        go (inl e) = omega arith
        go (inr (inl e)) = omega arith
        go (inr (inr (inl e))) = omega arith
        go (inr (inr (inr (inl e)))) = omega arith
        go (inr (inr (inr (inr (inl e))))) = omega arith
        go (inr (inr (inr (inr (inr e))))) = elim e [ ]

    -- Request 106: with the same text, settings and buffer, build_scanned and build return the same number and size and leave the same bytes, unless
    -- build_scanned is refused with 18.
    pub same-as-build : (κ : Lfts 3) (lent left : BorrowedMut) (b : BuildAnswer) → lent.now ≡ out.now → Build κ text leaf arity levels counted lent left b
        → (r ≡ Err ScanTableTooShort → ⊥)
        → ((replied (build_scanned_reply r)).number ≡ (replied (build_reply b)).number)
        × ((replied (build_scanned_reply r)).value ≡ (replied (build_reply b)).value) × (after.now ≡ left.now)
    same-as-build κ lent left b same c other =
        let long : build_scanned_refusal S T out.now (length words.now) ≡ 18 → ⊥ = λ e. other (short-table r (a.0 ∙ e)) in (
          a.0 ∙ number_same S T out.now (length words.now) long ∙ ap (build_refusal S T) (sym same) ∙ sym c.0,
          a.1.0 ∙ size_same S T out.now (length words.now) long ∙ ap (build_size S T) (sym same) ∙ sym c.1.0,
          a.1.1.1.0 ∙ leaves-same S T out.now (length words.now) long ∙ ap (build_buffer S T) (sym same) ∙ sym c.1.1,
        )

  -- It wrote a tree of this size at the start of the buffer.
  module _ (size windows : ℕ) (a : Outcome (Ok (size, windows))) where
    -- An answer is the tree's size, which fits; the buffer begins with the tree, and the bytes past it are unchanged.
    pub scanned-answer : (size ≤ length out.now) × (take size after.now ≡ tree_of S T) × (drop size after.now ≡ drop size out.now)
    scanned-answer = build-answer κ text leaf arity levels counted out after size (as-size size windows a)

    -- The returned number of windows is the definition's: on each level above the last, n + 1 - L for each different length L of a block or pair.
    pub scanned-windows : windows ≡ windows_of S T
    unfolding scan_windows
    scanned-windows = a.1.1.0 ∙ rw (← a.0)

    -- Demand 2, first part: the bytes written are those of the block tree of the text.
    pub scanned-writes : take size after.now ≡ tree_of S T
    scanned-writes = build-writes κ text leaf arity levels counted out after size (as-size size windows a)

    module _ (t : Borrowed) (is : t.now ≡ take size after.now) where
      -- Demand 2, second part: all calls on the written tree return what the text has.
      pub scanned-answers : Answers t S T
      scanned-answers = build-answers κ text leaf arity levels counted out after size (as-size size windows a) t is

      pub scanned-refuses : Refuses t S T
      scanned-refuses = build-refuses κ text leaf arity levels counted out after size (as-size size windows a) t is

      -- Demand 3, last part: the check accepts the written tree.
      pub scanned-accepted : (κ : Lfts 1) (r : Result ⊤ Refusal) → Check κ t r → r ≡ Ok tt
      scanned-accepted = build-accepted κ text leaf arity levels counted out after size (as-size size windows a) t is

      -- The written tree represents the input, and no other text fits.
      pub scanned-one-text : Represents t.now T × ((U : List ℕ) → fits U t.now ≡ true → U ≡ T)
      scanned-one-text = build-one-text κ text leaf arity levels counted out after size (as-size size windows a) t is
