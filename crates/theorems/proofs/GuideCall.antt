-- guide_words(tree), make_guide(tree, table) and check_guide(tree, guide): the size of a guide to the level 0 blocks; make one; check one. `Theorems` of their
-- crate has the other theorems.
use Rattle.std.specs.Prelude.{⊤, Result, Err}
use Rattle.refusals.specs.Refusals.{refusal_number, result_refusal}
use mathlib.Core.List.{[], ◌∷◌}
use mathlib.Core.Path.{◌≡◌, ap, ◌∙◌, refl}
use contract.Lifetimes.{Lfts}
use lib.ListN.{length}
use lib.Dec.{leb}
use Rattle.text.specs.Text.{same_list}
use Rattle.format.specs.TreeReading.{header_result, check_result}
use Rattle.format.specs.Answers.{Answer}
use Rattle.format.specs.AnswerLaws.{unless-number}
use Rattle.query_guide.specs.Guides.{guide_bytes, guide_words, guide_refusal, guide_words_answer, make_guide_refusal, make_guide_answer}
use Rattle.theorems.specs.CallContracts.{Refusal}
use Rattle.theorems.specs.PublicFunctions.{check_guide_function, guide_words_function, make_guide_function}
use Rattle.theorems.proofs.PublicCall.{Call, Borrowed, BorrowedMut, call}
use Rattle.theorems.proofs.RefusalNumbers.{OneOf, asks-one, not-zero, header-one, then_one, checked-one}
use Rattle.query_guide.proofs.guide_words.Met as guide-words-met
use Rattle.build_guide.proofs.make_guide.Met as make-guide-met
use Rattle.build_guide.proofs.check_guide.Met as check-guide-met
-- What the contracts allow: `GuideWords κs tree r`, `MakeGuide κs tree table after r`, which leaves the table as `after`, `CheckGuide κs tree guide r`.
pub use Rattle.query_guide.proofs.Theorems.{GuideWords}
pub use Rattle.build_guide.proofs.Theorems.{MakeGuide, CheckGuide}

abbrev pub guide_words_call : Call
guide_words_call = call guide_words_function guide-words-met.met (λ 𝓤 𝓛 mem run κs a. (tt, refl))

abbrev pub make_guide_call : Call
make_guide_call = call make_guide_function make-guide-met.met (λ 𝓤 𝓛 mem run κs a. (tt, refl))

abbrev pub check_guide_call : Call
check_guide_call = call check_guide_function check-guide-met.met (λ 𝓤 𝓛 mem run κs a. (tt, refl))

-- Checking a guide: 0, 5 to 9, or 24.
pub check-guide-numbers : (κs : Lfts 2) (t guide : Borrowed) (r : Result ⊤ Refusal) → CheckGuide κs t guide r
    → OneOf (5 ∷ 6 ∷ 7 ∷ 8 ∷ 9 ∷ 24 ∷ 0 ∷ []) (result_refusal r)
unfolding guide_refusal
check-guide-numbers κs t guide r a =
    rw a (then_one (5 ∷ 6 ∷ 7 ∷ 8 ∷ 9 ∷ []) (24 ∷ 0 ∷ []) (check_result t.now) _ (checked-one t.now)
    (asks-one ((24, same_list guide.now (guide_bytes t.now)) ∷ [])))

-- Making one: a refusal is 5 to 9 or 25.
pub make-guide-numbers : (κs : Lfts 2) (t : Borrowed) (table after : BorrowedMut) (q : Refusal) → MakeGuide κs t table after (Err q)
    → OneOf (5 ∷ 6 ∷ 7 ∷ 8 ∷ 9 ∷ 25 ∷ []) (refusal_number q)
unfolding make_guide_refusal make_guide_answer
make-guide-numbers κs t table after q a =
    let made : Answer = record { number = 0; value = guide_words t.now; entered = 0 } in
    let e : refusal_number q ≡ make_guide_refusal t.now table.now = ap (λ (s : Answer). s.number) a.0.0
    ∙ unless-number (make_guide_refusal t.now table.now) made refl in
    not-zero (5 ∷ 6 ∷ 7 ∷ 8 ∷ 9 ∷ 25 ∷ []) (refusal_number q) a.0.1
    (rw e (then_one (5 ∷ 6 ∷ 7 ∷ 8 ∷ 9 ∷ []) (25 ∷ 0 ∷ []) (check_result t.now) _ (checked-one t.now)
    (asks-one ((25, leb (length (guide_bytes t.now)) (length table.now)) ∷ []))))

-- guide_words: a refusal is 5, 6 or 7.
pub guide-words-numbers : (κs : Lfts 1) (t : Borrowed) (q : Refusal) → GuideWords κs t (Err q) → OneOf (5 ∷ 6 ∷ 7 ∷ []) (refusal_number q)
unfolding guide_words_answer
guide-words-numbers κs t q a =
    let reply : Answer = record { number = 0; value = guide_words t.now; entered = 0 } in
    let e : refusal_number q ≡ header_result t.now = ap (λ (s : Answer). s.number) a.0 ∙ unless-number (header_result t.now) reply refl in
    not-zero (5 ∷ 6 ∷ 7 ∷ []) (refusal_number q) a.1 (rw e (header-one t.now))
