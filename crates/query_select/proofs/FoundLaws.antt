-- The answer of a find: a place of the text, which is that of the j-th occurrence if the answer is determined; or a refusal, which is 14 and only occurs if
-- the answer is free.
use mathlib.Core.List.{List}
use mathlib.Core.Path.{◌≡◌, sym, ap, ◌∙◌}
use mathlib.Core.Logic.{◌⊎◌, inl, inr}
use Prim.Native.Nat.{ℕ, ◌≤◌, ◌<◌}
use native.Mathlib.Omega.{arith}
use Rattle.text.specs.ListLaws.{lt-or-ge}
use Rattle.text.specs.Text.{place_of}
use Rattle.text.specs.declared.TextPlace.{TextPlace}
use Rattle.format.specs.Layout as at
use Rattle.format.specs.TreeReading.{path_of, text_of, check_result}
use Rattle.format.specs.CheckResultLaws.{accepted-header, accepted-links}
use Rattle.format.specs.Answers.{Answer, refused, replied, find_refusal, path_length, found, FindBy}
use Rattle.format.specs.FindAnswerLaws.{FindAnswers, Selected, select-passes}
use Rattle.theory_paths.specs.Visits.{path-long}
use Rattle.theory_paths.specs.Theorems as paths
use Rattle.theory_counts.specs.Theorems as counts
use Rattle.std.specs.Prelude.{Result, Ok, Err}
use Rattle.refusals.specs.declared.Refusal.{Refusal}
use Rattle.refusals.specs.declared.Refusal.TheVariants.{PathBroken}
use Rattle.refusals.specs.Refusals.{refusal_number}
use Rattle.refusals.specs.RefusalsLaws.{number-above, one-number}
use Rattle.query_select.specs.Found.{find_reply}

-- On an accepted tree the path of the j-th byte enters a block.
path-enters : (t : List ℕ) → check_result t ≡ 0 → (byte j : ℕ) → Selected t byte j → 1 ≤ path_length t (path_of t (place_of byte j (text_of t)))
path-enters t v byte j h =
    let w = paths.no-path-breaks t (accepted-header t v) (accepted-links t v) (place_of byte j (text_of t)) (counts.place-below t v byte j h) in
    rw w.1 (path-long t (place_of byte j (text_of t)) w.0 w.1)

-- If the answer is determined, find returns the same.
pub by-find : (t : List ℕ) (byte j : ℕ) (s : Answer) (ok : ℕ) → (ok ≡ 0 → check_result t ≡ 0) → ok ≡ 0 → FindBy t ok byte j s → FindAnswers t byte j s
by-find t byte j s ok sound z f = record { asked = f.asked; accepted = λ n v. f.accepted n z; free = λ n v. absurd (v (sound z)) }

module _ (t : List ℕ) (ok byte j : ℕ) (sound : ok ≡ 0 → check_result t ≡ 0) (x : Result (TextPlace × ℕ) Refusal)
    (says : FindBy t ok byte j (replied (find_reply x))) where
  module _ (q : Refusal) (e : x ≡ Err q) (asked : find_refusal t byte j ≡ 0) where
    answer-refused : replied (find_reply x) ≡ refused (refusal_number q)
    answer-refused = rw e

    pub refused-not : ok ≡ 0 → ⊥
    unfolding found
    refused-not v =
        let z = sym answer-refused ∙ says.accepted asked v in
        let y = ap (λ (s : Answer). s.entered) z in
        omega (arith, path-enters t (sound v) byte j (select-passes t byte j asked))

    pub refused-free : q ≡ PathBroken
    refused-free = one-number q PathBroken (go (lt-or-ge 0 ok))
      where
        either : (replied (find_reply x) ≡ refused 14) ⊎ (((replied (find_reply x)).number ≡ 0) × ((replied (find_reply x)).value < at.text_length t))
            → refusal_number q ≡ 14
        either (inl s) = ap (λ (y : Answer). y.number) (sym answer-refused ∙ s)
        either (inr s) = absurd (let z : refusal_number q ≡ 0 = sym (ap (λ (y : Answer). y.number) answer-refused) ∙ s.0 in omega (arith, number-above q))

        go : (0 < ok) ⊎ (ok ≤ 0) → refusal_number q ≡ 14
        go (inl above) = either (says.free asked (λ v. omega arith))
        go (inr high) = absurd (refused-not (omega arith))

  module _ (p : TextPlace) (e : ℕ) (is : x ≡ Ok (p, e)) where
    answer_at : replied (find_reply x) ≡ record { number = 0; value = p.0; entered = e }
    answer_at = rw is

    pub place-asked : find_refusal t byte j ≡ 0
    place-asked = go (lt-or-ge 0 (find_refusal t byte j))
      where
        go : (0 < find_refusal t byte j) ⊎ (find_refusal t byte j ≤ 0) → find_refusal t byte j ≡ 0
        go (inl low) = let z = ap (λ (s : Answer). s.number) (sym answer_at ∙ says.asked low) in omega arith
        go (inr high) = omega arith

    pub place_is : ok ≡ 0 → p.0 ≡ place_of byte j (text_of t)
    unfolding found
    place_is v = ap (λ (s : Answer). s.value) (sym answer_at ∙ says.accepted place-asked v)

    pub place-in-text : p.0 < at.text_length t
    place-in-text = go (lt-or-ge 0 ok)
      where
        either : (replied (find_reply x) ≡ refused 14) ⊎ (((replied (find_reply x)).number ≡ 0) × ((replied (find_reply x)).value < at.text_length t))
            → p.0 < at.text_length t
        either (inl s) = absurd (let z : ◌≡◌ {A = ℕ} 0 14 = ap (λ (y : Answer). y.number) (sym answer_at ∙ s) in omega arith)
        either (inr s) = rw (ap (λ (y : Answer). y.value) answer_at) at s.1

        go : (0 < ok) ⊎ (ok ≤ 0) → p.0 < at.text_length t
        go (inl low) = either (says.free place-asked (λ v. omega arith))
        go (inr high) =
            let v : ok ≡ 0 = omega arith in
            rw (place_is v) (counts.place-below t (sound v) byte j (select-passes t byte j place-asked))
