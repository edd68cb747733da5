-- build(text, leaf, arity, levels, counted, out): the block tree of a text, written into a buffer. Demand 2, and the last part of demand 3: the check
-- accepts what build writes.
use Rattle.std.specs.Prelude.{⊤, Result, Ok, Err}
use Rattle.refusals.specs.declared.Refusal.TheVariants.{TreeDoesNotFit}
use Rattle.refusals.specs.Refusals.{refusal_number}
use Rattle.refusals.specs.RefusalsLaws.{number-above, one-number, answered-with}
use mathlib.Core.List.{List, [], ◌∷◌, ◌++◌}
use mathlib.Core.Bool.{true, cond, Bool}
use mathlib.Core.Path.{◌≡◌, sym, ap, ◌∙◌, refl}
use Prim.Native.Nat.{ℕ, ◌≤◌}
use native.Mathlib.Omega.{arith}
use contract.Lifetimes.{Lfts}
use lib.ListN.{length, take, drop, replicate}
use lib.Dec.{eqb, leb}
use lib.Seq.{take-append_seam, drop-append_seam}
use borrow.Author.Tests.{ne_eqb, leb-true, le-leb}
use Rattle.format.specs.Answers.{replied, build_refusal, build_size, build_buffer}
use Rattle.format.specs.Layout.{Settings, length_ok, sizes_ok, counted_ok, given}
use Rattle.format.specs.Layout as at
use Rattle.format.specs.TreeReading.{text_of, check_result}
use Rattle.format.specs.FittingText.{fits}
use Rattle.format.specs.Blocks.{tree_of}
use Rattle.format.specs.LayoutLaws.{header-facts}
use Rattle.format.specs.AnswerLaws.{asks-pass}
use Rattle.theory_built.specs.BlockSizes.{Taken}
use Rattle.theory_built.specs.BuiltHeader.{built-header}
use Rattle.theory_built.specs.ReadBack.{read-settings}
use Rattle.theory_accepted.specs.AcceptedTrees.{Represents, accepted-represents, one-text}
use Rattle.build_by_search.specs.BuildAnswer.{build_reply}
use Rattle.build_size_bound.specs.SizeBound.{size_bound_for}
use Rattle.build_size_bound.specs.SizeBoundHolds.{never-full}
use Rattle.tree.proofs.Theorems as tree
use Rattle.theorems.specs.CallContracts.{BuildAnswer, Refusal}
use Rattle.theorems.specs.Promises.{Answers, CompleteBuilder, Refuses}
use Rattle.theorems.specs.PublicFunctions.{build_function}
use Rattle.theorems.proofs.CheckCall.{Check}
use Rattle.theorems.proofs.SizeBoundCall.{SizeBound, size-bound-answer}
use Rattle.theorems.proofs.PublicCall.{Call, Borrowed, BorrowedMut, call}
use Rattle.theorems.proofs.RefusalNumbers.{OneOf, asks-one, not-zero}
use Rattle.build_by_search.proofs.build.Met as build-met
use Rattle.theorems.proofs.TreeAnswers.{accepted-answers, accepted-refuses}
-- What the contract allows, where the buffer is left as `after`: `Build κs text leaf arity levels counted out after r`.
pub use Rattle.theorems.specs.CallContracts.{Build}

abbrev pub build_call : Call
build_call = call build_function build-met.met (λ 𝓤 𝓛 mem run κs a. (tt, refl))

-- For any bytes.

-- The numbers that its questions can give.
build-one : (S : Settings) (T out : List ℕ) → OneOf (1 ∷ 2 ∷ 3 ∷ 4 ∷ 0 ∷ []) (build_refusal S T out)
unfolding build_refusal
build-one S T out =
    asks-one ((1, length_ok (length T)) ∷ (2, sizes_ok S) ∷ (3, counted_ok S.counted) ∷ (4, leb (length (tree_of S T)) (length out)) ∷ [])

-- Build is not refused only if the tree fits the buffer.
build-fits : (S : Settings) (T out : List ℕ) → build_refusal S T out ≡ 0 → length (tree_of S T) ≤ length out
unfolding build_refusal
build-fits S T out h =
    let questions : List (ℕ × Bool) = (1, length_ok (length T)) ∷ (2, sizes_ok S) ∷ (3, counted_ok S.counted)
    ∷ (4, leb (length (tree_of S T)) (length out)) ∷ [] in
    leb-true _ _ (asks-pass questions refl h).1.1.1.0

module _ (κs : Lfts 3) (text : Borrowed) (leaf arity levels : ℕ) (counted : Borrowed) (out after : BorrowedMut) where
  abbrev S : Settings
  S = given leaf arity levels counted.now

  -- The result is the tree's size, which fits. The buffer begins with the tree, and the bytes after it are unchanged.
  pub build-answer : (size : ℕ) → Build κs text leaf arity levels counted out after (Ok size)
      → (size ≤ length out.now) × (take size after.now ≡ tree_of S text.now) × (drop size after.now ≡ drop size out.now)
  unfolding build_size build_buffer
  build-answer size a =
      let passed : build_refusal S text.now out.now ≡ 0 = sym a.0 in
      let tree = tree_of S text.now in
      let call-size-is : size ≡ length tree = a.1.0 ∙ rw passed in
      let left : after.now ≡ tree ++ drop (length tree) out.now = a.1.1 ∙ rw passed in
      let past = drop (length tree) out.now in (
        rw call-size-is (build-fits S text.now out.now passed),
        rw (left, call-size-is) (take-append_seam tree past),
        rw (left, call-size-is) (drop-append_seam tree past),
      )

  module _ (q : Refusal) (a : Build κs text leaf arity levels counted out after (Err q)) where
    -- A refusal is 1, 2, 3 or 4.
    pub build-numbers : OneOf (1 ∷ 2 ∷ 3 ∷ 4 ∷ []) (refusal_number q)
    build-numbers = not-zero (1 ∷ 2 ∷ 3 ∷ 4 ∷ []) (refusal_number q) (number-above q) (rw a.0 (build-one S text.now out.now))

    -- What is left in the buffer, by the number.
    build-left : after.now ≡ cond (eqb (refusal_number q) 4) (replicate (length out.now) 0) out.now
    unfolding build_buffer
    build-left = a.1.1 ∙ rw (← a.0, ne_eqb (refusal_number q) 0 (λ e. omega (arith, number-above q)))

    -- Refusal 4 leaves zeros in the whole buffer.
    pub build-zeros : q ≡ TreeDoesNotFit → after.now ≡ replicate (length out.now) 0
    build-zeros e = build-left ∙ rw e

    -- Any other refusal leaves the buffer unchanged.
    pub build-unchanged : (q ≡ TreeDoesNotFit → ⊥) → after.now ≡ out.now
    build-unchanged e = build-left ∙ rw (ne_eqb (refusal_number q) 4 (λ z. e (one-number q TreeDoesNotFit z)))

    -- With room of the size that enough answers, and counted bytes that question 3 takes, build is not refused.
    pub build-has-room : (m : ℕ) → SizeBound (length text.now) leaf arity levels (length counted.now) (Ok m) → m ≤ length out.now
        → counted_ok counted.now ≡ true → ⊥
    unfolding sizes_ok
    build-has-room m e space rising =
        let size = size_bound_for (length text.now) leaf arity levels (length counted.now) in
        let k = size-bound-answer (length text.now) leaf arity levels (length counted.now) m e in
        let taken : Taken S text.now = record { length-ok = k.0; sizes-ok = k.1; counted-ok = rising } in
        let enough : size ≤ length out.now = omega (arith, k.2) in
        omega (arith, number-above q, a.0, never-full S text.now taken out.now enough)

  -- It wrote a tree of this size at the start of the buffer.
  module _ (size : ℕ) (a : Build κs text leaf arity levels counted out after (Ok size)) where
    abbrev T : List ℕ
    T = text.now

    -- Demand 2, first part: the bytes written are those of the block tree of the text.
    pub build-writes : take size after.now ≡ tree_of S T
    build-writes = tree.build-writes κs text leaf arity levels counted out after (Ok size) a refl

    -- The tree, as an argument of another call.
    module _ (t : Borrowed) (is : t.now ≡ take size after.now) where
      -- No question refused.
      passed : build_refusal S T out.now ≡ 0
      passed = sym a.0

      accepted : check_result t.now ≡ 0
      accepted = rw is (tree.build-accepted κs text leaf arity levels counted out after (Ok size) a refl)

      text-is : text_of t.now ≡ T
      text-is = rw is (tree.build-text κs text leaf arity levels counted out after (Ok size) a refl)

      -- The header has the given settings.
      settings_are : at.settings t.now ≡ S
      settings_are = rw (is ∙ build-writes) (read-settings S T (tree.taken S T out.now passed))

      -- Demand 2, second part: all calls on the written tree return what the text has.
      pub build-answers : Answers t S T
      build-answers = rw (← settings_are, ← text-is) (accepted-answers t accepted)

      -- Where questions 10 to 13 do not let one through, their number is answered.
      pub build-refuses : Refuses t S T
      build-refuses = rw (← settings_are, ← text-is) (accepted-refuses t accepted)

      -- Demand 3, last part: the check accepts the written tree.
      pub build-accepted : (κ : Lfts 1) (r : Result ⊤ Refusal) → Check κ t r → r ≡ Ok tt
      build-accepted κ r c = answered-with r tt (c ∙ accepted) (λ y is. refl)

      -- The written tree represents the input, and no other text fits.
      pub build-one-text : Represents t.now T × ((U : List ℕ) → fits U t.now ≡ true → U ≡ T)
      build-one-text =
          let s = accepted-represents t.now accepted in
          (rw text-is at s, λ U f. one-text t.now s.header-result s.linked U f ∙ text-is)

-- Which answer has a size.
call-size-is : (r : BuildAnswer) (n : ℕ) → 1 ≤ n → (replied (build_reply r)).value ≡ n → r ≡ Ok n
call-size-is (Ok m) n low e = ap Ok e
call-size-is (Err q) n low e = absurd (let z : ⊥ = omega arith in z)

-- Demand 3, last part: build is not refused if questions 1 to 3 pass and the buffer has at least the tree's size.
pub build-accepts-exact-buffer : CompleteBuilder
unfolding build_refusal build_size
build-accepts-exact-buffer κs text leaf arity levels counted out after r a one two three four =
    let S = given leaf arity levels counted.now in
    let passed : build_refusal S text.now out.now ≡ 0 = rw (one, two, three, le-leb (length (tree_of S text.now)) (length out.now) four) in
    let long = (header-facts (tree_of S text.now) (built-header S text.now (record { length-ok = one; sizes-ok = two; counted-ok = three }))).long in
    let size : (replied (build_reply r)).value ≡ length (tree_of S text.now) = a.1.0 ∙ rw passed in
    call-size-is r (length (tree_of S text.now)) (omega (arith, long)) size
