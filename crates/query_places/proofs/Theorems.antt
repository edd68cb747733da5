-- The demands on the places of a pattern, as theorems over what the call promises, on every tree that passes questions 5 to 7.
-- docs/FORMAT.md: "Places", "Figures and sizes".
use Rattle.std.specs.Prelude.{Result, Ok, Err}
use Rattle.refusals.specs.declared.Refusal.{Refusal}
use Rattle.refusals.specs.declared.Refusal.TheVariants.{PathBroken, PatternLengthWrong, PatternTableTooShort}
use Rattle.refusals.specs.Refusals.{refusal_number, result_refusal}
use Rattle.refusals.specs.RefusalsLaws.{number-above, refused-as}
use mathlib.Core.List.{List, ◌++◌}
use mathlib.Core.Option.{none, some}
use mathlib.Core.Bool.{Bool, true, false, ◌&&◌}
use mathlib.Core.Path.{◌≡◌, refl, ap, ◌∙◌}
use mathlib.Core.Logic.{◌⊎◌, inl, inr}
use Prim.Native.Nat.{ℕ, zero, suc, ◌+◌, ◌≤◌, ◌<◌}
use native.Mathlib.Omega.{arith}
use contract.Lifetimes.{Lfts}
use denote.Ref.{Bor, MutBor}
use borrow.Author.Tests.{le-leb, lt-leb, leb-true, ne_eqb}
use lib.ListN.{length, drop}
use lib.Dec.{leb, eqb}
use Rattle.text.specs.ListLaws.{bool_cases, and_left, and_right, and-false}
use Rattle.format.specs.Layout as at
use Rattle.format.specs.TreeReading.{Path, path_of, text_of, ask, header_result}
use Rattle.format.specs.LayoutLaws.{header-facts}
use Rattle.format.specs.Answers.{Answer, refused, replied, byte_of, byte_answer, paths_hold}
use Rattle.format.specs.AnswerLaws.{unless-number}
use Rattle.theory_paths.specs.Reads.{paths-hold}
use Rattle.theory_paths.specs.PlaceBytes.{byte-path}
use Rattle.query_places.specs.Places.{max_pattern, pattern_ok, places_in, places_of, places_refusal, places_answer, places_buffer, places_reply}
use Rattle.query_places.proofs.RoomLaws.{places-few, words-answered}
use Rattle.query_places.proofs.places.Reads as places-reads
use Rattle.query_places.proofs.places_words.Reads as words-reads

-- r is an answer that the contract of `places` allows to a call with these arguments, with the table left as `after`
abbrev pub Places : (κs : Lfts 3) → (t P : Bor (List ℕ)) (table after : MutBor (List ℕ)) → Result ℕ Refusal → Type 0
Places κs t P table after r = places-reads.Post κs (t, (P, (table, tt))) r (t, (P, (after, tt)))

-- The answer in each case.
places-number-is : (r : Result ℕ Refusal) (n : ℕ) → replied (places_reply r) ≡ record { number = 0; value = n; entered = 0 } → r ≡ Ok n
places-number-is (Ok m) n e = ap Ok (ap (λ (s : Answer). s.value) e)
places-number-is (Err q) n e = absurd (let low = number-above q in let z : ⊥ = omega (arith, ap (λ (s : Answer). s.number) e) in z)

places-refusal : (r : Result ℕ Refusal) → result_refusal r ≡ (replied (places_reply r)).number
places-refusal (Ok m) = refl
places-refusal (Err q) = refl

-- One path of some places breaks.
one-breaks : (t : List ℕ) (len p x : ℕ) → x < len → (byte_answer t (p + x)).number ≡ 14 → paths_hold t p len ≡ false
unfolding paths_hold
one-breaks t zero p x h e = absurd (let z : ⊥ = omega arith in z)
one-breaks t (suc len) p zero h e =
    let z : (byte_answer t p).number ≡ 14 = rw (let y : p + 0 ≡ p = omega arith in y) at e in
    rw z
one-breaks t (suc len) p (suc x) h e =
    let y : p + 1 + x ≡ p + suc x = omega arith in
    rw (one-breaks t len (p + 1) x (omega arith) (rw y e)) (and-false (eqb (byte_answer t p).number 0))

-- A pattern of other length.
other_length : (P : List ℕ) → (1 ≤ length P → length P ≤ max_pattern → ⊥) → pattern_ok P ≡ false
unfolding pattern_ok
other_length P wrong = go (bool_cases (leb 1 (length P) && leb (length P) max_pattern))
  where
    go : ((leb 1 (length P) && leb (length P) max_pattern) ≡ true) ⊎ ((leb 1 (length P) && leb (length P) max_pattern) ≡ false)
        → (leb 1 (length P) && leb (length P) max_pattern) ≡ false
    go (inl h) = absurd (wrong (leb-true _ _ (and_left _ _ h)) (leb-true _ _ (and_right (leb 1 (length P)) _ h)))
    go (inr h) = h

module _ (κs : Lfts 3) (t P : Bor (List ℕ)) (table after : MutBor (List ℕ)) (r : Result ℕ Refusal) (a : Places κs t P table after r) where
  -- A refusal: its number, and the table as it was.
  refuses : (q : ℕ) → places_refusal t.now P.now (length table.now) ≡ suc q → (result_refusal r ≡ suc q) × (after.now ≡ table.now)
  unfolding places_answer places_buffer
  refuses q e =
      let said : replied (places_reply r) ≡ refused (suc q) = a.0.answers ∙ rw e in
      (places-refusal r ∙ ap (λ (s : Answer). s.number) said, a.1 ∙ rw (e, ne_eqb (suc q) 0 (λ z. omega arith)))

  refuses-by : (q : Refusal) (k : ℕ) → suc k ≡ refusal_number q → places_refusal t.now P.now (length table.now) ≡ suc k → (r ≡ Err q) × (after.now ≡ table.now)
  refuses-by q k is e = let z = refuses k e in (refused-as r q (z.0 ∙ is), z.1)

  -- Questions 5 to 7.
  pub places-unread : (q : ℕ) → header_result t.now ≡ suc q → (result_refusal r ≡ suc q) × (after.now ≡ table.now)
  unfolding places_refusal
  places-unread q e = refuses q (rw (e, ne_eqb (suc q) 0 (λ z. omega arith)))

  module _ (pass : header_result t.now ≡ 0) where
    -- Refused with 16: a pattern that does not have 1 to 256 bytes.
    pub places_length : (1 ≤ length P.now → length P.now ≤ max_pattern → ⊥) → (r ≡ Err PatternLengthWrong) × (after.now ≡ table.now)
    unfolding places_refusal
    places_length wrong = refuses-by PatternLengthWrong 15 refl (rw (pass, other_length P.now wrong))

    module _ (low : 1 ≤ length P.now) (high : length P.now ≤ max_pattern) where
      -- Refused with 14: one of the n paths breaks.
      pub places-broken : (p : ℕ) → p < at.text_length t.now → path_of t.now p ≡ none → (r ≡ Err PathBroken) × (after.now ≡ table.now)
      unfolding places_refusal pattern_ok
      places-broken p below e =
          let z : 0 + p ≡ p = omega arith in
          let b : (byte_answer t.now (0 + p)).number ≡ 14 = rw z (ap (λ (s : Answer). s.number) (byte-path t.now pass p below ∙ ap (byte_of t.now) e)) in
          refuses-by PathBroken 13 refl
          (rw (pass, le-leb 1 (length P.now) low, le-leb (length P.now) max_pattern high, one-breaks t.now (at.text_length t.now) 0 p below b))

      module _ (holds : (p : ℕ) → p < at.text_length t.now → (q : Path) × (path_of t.now p ≡ some q)) where
        abbrev ps : List ℕ
        ps = places_in P.now (text_of t.now)

        hold : paths_hold t.now 0 (at.text_length t.now) ≡ true
        hold = paths-hold t.now (header-facts t.now pass) pass holds (at.text_length t.now) 0 (omega arith)

        -- Refused with 17: the table has fewer words than there are places.
        pub places_short : length table.now < length ps → (r ≡ Err PatternTableTooShort) × (after.now ≡ table.now)
        unfolding places_refusal pattern_ok places_of
        places_short short =
            refuses-by PatternTableTooShort 16 refl
            (rw (pass, le-leb 1 (length P.now) low, le-leb (length P.now) max_pattern high, hold, lt-leb (length ps) (length table.now) short))

        -- Not refused: the table begins with all places (`AllPlaces`), and their number is returned.
        pub places-written : length ps ≤ length table.now → (r ≡ Ok (length ps)) × (after.now ≡ ps ++ drop (length ps) table.now)
        unfolding places_refusal pattern_ok places_answer places_buffer places_of
        places-written room =
            let z : places_refusal t.now P.now (length table.now) ≡ 0 =
            rw (pass, le-leb 1 (length P.now) low, le-leb (length P.now) max_pattern high, hold, le-leb (length ps) (length table.now) room) in
            (places-number-is r (length ps) (a.0.answers ∙ rw z), a.1 ∙ rw z)

-- The size of a table.

-- r is an answer that the contract of `places_words` allows to a call with these arguments
abbrev pub PlacesWords : (κs : Lfts 1) → Bor (List ℕ) → (len : ℕ) → Result ℕ Refusal → Type 0
PlacesWords κs t len r = words-reads.Post κs (t, (len, tt)) r (t, (len, tt))

-- On any tree that passes questions 5 to 7, a table of the words that places_words returns for a pattern's length is large enough for all its places.
module _ (κ : Lfts 1) (t P : Bor (List ℕ)) (table : MutBor (List ℕ))
    (words : ℕ) (a : PlacesWords κ t (length P.now) (Ok words)) (enough : words ≤ length table.now) where
  pub room-holds : length (places_in P.now (text_of t.now)) ≤ length table.now
  unfolding places_of
  room-holds = let k = words-answered t.now (length P.now) words a.answers in omega (arith, k.words_are, places-few t.now P.now k.low)

  -- With a table of that size the call is not refused with 17.
  pub room-enough : (κs : Lfts 3) (after : MutBor (List ℕ)) → Places κs t P table after (Err PatternTableTooShort) → ⊥
  unfolding places_answer places_refusal pattern_ok places_of
  room-enough κs after b = go (paths_hold t.now 0 (at.text_length t.now)) refl
    where
      number_of : 17 ≡ (places_answer t.now P.now (length table.now)).number → 17 ≡ places_refusal t.now P.now (length table.now)
      number_of e = e ∙ unless-number
          (places_refusal t.now P.now (length table.now)) (record { number = 0; value = length (places_of t.now P.now); entered = 0 }) refl

      other : (holds : Bool) → ◌≡◌ {A = ℕ} 17 (ask 14 holds 0) → ⊥
      other true e = omega arith
      other false e = omega arith

      go : (holds : Bool) → paths_hold t.now 0 (at.text_length t.now) ≡ holds → ⊥
      go holds e =
          let k = words-answered t.now (length P.now) words a.answers in
          let z : places_refusal t.now P.now (length table.now) ≡ ask 14 holds 0 =
          rw (
            k.pass,
            le-leb 1 (length P.now) k.low,
            le-leb (length P.now) max_pattern k.high,
            e,
            le-leb (length (places_in P.now (text_of t.now))) (length table.now) room-holds,
          ) in
          other holds (number_of (ap (λ (s : Answer). s.number) b.0.answers) ∙ z)
